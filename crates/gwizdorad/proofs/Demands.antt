-- The three demands, a theorem each, and what document 02 adds: R-4 to the third, R-5 to the operations. What they say stands in specs/Demands.antt; the proofs are citations.
use mathlib.Core.Path.{◌≡◌, refl, sym, ap, subst, ◌∙◌}
use mathlib.Core.Logic.{◌⊎◌, inl, inr}
use mathlib.Core.Bool.{true, false}
use mathlib.Core.List.{List}
use Prim.Native.Nat.{ℕ, ◌+◌, ◌*◌, ◌^◌, ◌≤◌, ◌<◌}
use native.Mathlib.Omega.{arith}
use lib.IntN.{ℤ}
use lib.ListN.{length, take, drop, get_or}
use lib.Seq.{drop_at}
use Rattle.numbers.specs.Answers.{code_answer, pattern_answer}
use Rattle.numbers.specs.Bound.{bound_answer}
use Rattle.blocks.specs.Bytes.{Below}
use Rattle.blocks.proofs.Law.Truth.{le_or_lt}
use Rattle.stream.specs.Setting.{known_level, known_width, setting_of, halves_at, setting_at, need, stream_need}
use Rattle.stream.specs.Tables.{some_high, first_high}
use Rattle.stream.specs.Chunk.{groups_in}
use Rattle.stream.specs.Stream.{values}
use Rattle.stream.specs.Writing.{stream, Side, add_sides, ids_of, WellFormedSides}
use Rattle.stream.specs.Packing.{Packable, Sent}
use Rattle.stream.specs.Theorem.{TooNew, RefusedBy}
use Rattle.stream.specs.Operations.{check_answer, unpack_answer, unpack_out, pack_answer, pack_out}
use Rattle.std.specs.Prelude.{Result, Ok}
use lib.Ieee.{Float}
use Rattle.stream.specs.declared.answers.Refusal.{Refusal}
use Rattle.stream.specs.declared.answers.Refusal.TheVariants.{BrokenHeader, MustBeUnderstood}
use Rattle.stream.specs.declared.answers.Shown.{Shown}
use Rattle.stream.proofs.Readers.{the_refusal_table, check_order, unpack_order, probe_order, refused_check, refused_unpack, refused_probe32, refused_probe64, refused_untouched, written_values, probe_as_unpack32, probe_as_unpack64, check_higher, unpack_higher, probe_higher32, probe_higher64}
use Rattle.stream.proofs.Written.{length_order, pack_order, refused_length, refused_pack, refused_pack_untouched, accepted_setting, accepted_later, accepted_list, accepted_leaves, accepted_is_raised, the_minors_as_they_were, length_is_answered, packed_length_bound, the_stream_is_packed, it_is_read, it_is_too_new, refused_by_15, refused_by_8}
use Rattle.stream.proofs.Understood.{the_high_ids, a_high_id_is_never_skipped}
use Rattle.summary.proofs.Theorems.{add_order, test_order, list_order, refused_add, refused_add_untouched, refused_test, refused_list, refused_list_untouched, add_takes, side_parts_are_refused_by_16, the_copy_fits, the_copy_is_left, the_copy_is_read_as_the_original, only_the_number_of_side_parts_is_another, the_summary_that_is_added_is_true, a_test_accepts_what_is_added, a_test_accepts_exactly_the_true_summaries, all_else_is_refused_by_17, a_true_summary_has_an_entry_for_each_chunk, a_true_summary_says, the_list_fits, a_list_is_made_of_a_true_summary, the_list_names_exactly, the_list_is_in_order, past_the_list, a_list_is_given, a_not_a_number_is_refused_by_2, a_high_id_is_not_skipped}
use Rattle.summary.proofs.Ieee.{nan_as, is_a_number}
use Rattle.gwizdorad_numbers.proofs.Theorems.{a_refused_code_is_not_written, a_refused_pattern_is_not_written}
use Rattle.gwizdorad.specs.Result.{probe_out32, probe_out64}
use Rattle.gwizdorad.specs.Demands.{Demand1, ComesBack, Packed, Demand2, Offered, ReadBack, given_back, too_new, Demand3, WithMinors, RightNeed, NotSkipped, SummaryBeside}
use Rattle.gwizdorad.proofs.Theorems.{probe32_leaves_what_unpack_leaves, probe64_leaves_what_unpack_leaves}
use Rattle.gwizdorad.proofs.Law.Demand.{coded_at, decoded_at, code_refused, pattern_refused, pattern_above, bound_detail_lem, unknown_width, lossless_at, differences_at, within_at, nearest_at, beyond_at, signed_at, restored_at, rule_at, alike_at, minors_are, by_the_rule, levels_at, needs_at, raised_at, needs_13, bound_at, offered, is_sent, as_many, come_back}

pub demand_1 : Demand1
unfolding probe_out32 probe_out64
demand_1 =
    record {
      order = record { pack = pack_order; length_of = length_order; check = check_order; unpack = unpack_order; probe = probe_order; add = add_order; test = test_order; list = list_order };
      table = the_refusal_table;
      pack = λ W level mode k group vs out refusal.
          (refused_pack W level mode k group vs (length out) refusal, refused_pack_untouched W level mode k group vs out refusal);
      length_of = refused_length;
      check = refused_check;
      unpack = λ W L s out refusal. (refused_unpack W L s (length out) refusal, refused_untouched W L s out refusal);
      probe32 = λ L s i old refusal. (refused_probe32 L s i refusal, λ e. ap (λ (a : Result (Shown Float ℕ) Refusal). probe_out32 a old) e);
      probe64 = λ L s i old refusal. (refused_probe64 L s i refusal, λ e. ap (λ (a : Result (Shown Float ℕ) Refusal). probe_out64 a old) e);
      add = λ L s out refusal. (refused_add L s (length out) refusal, refused_add_untouched L s out refusal);
      test = refused_test;
      list = λ W L x s out refusal. (refused_list W L x s (length out) refusal, refused_list_untouched W L x s out refusal);
      bound = λ W t. (unknown_width W t, bound_detail_lem (bound_answer W t));
      code = λ W m halves k p old. (code_refused W m halves k p, a_refused_code_is_not_written (code_answer W m halves k p) old);
      pattern = λ W m k c old. (pattern_refused W m k c, pattern_above W m k c, a_refused_pattern_is_not_written (pattern_answer W m k c) old);
    }

-- what is unpacked of a packed stream
module _ (W level mode : ℕ) (k : ℤ) (group : ℕ) (vs s : List ℕ) (width : known_width W ≡ true) (patterns : Below (2 ^ W) vs) (packed : Packed W level mode k group vs s)
    (L n : ℕ) (back : List ℕ) (done : unpack_answer W L s (length back) ≡ Ok n) where
  counted : n ≡ length vs
  counted = sym (written_values W L s back n done).0 ∙ as_many W level mode k group vs s width patterns packed

  unpacked : (i : ℕ) → i < n → ComesBack W mode k (get_or vs i 0) (get_or (unpack_out W L s back) i 0)
  unpacked i below =
      subst (λ (q : ℕ). ComesBack W mode k (get_or vs i 0) q) (sym ((written_values W L s back n done).1 i below))
      (come_back W level mode k group vs s width patterns packed i (omega (arith, counted)))

pub demand_2 : Demand2
demand_2 =
    record {
      layout = accepted_leaves;
      minors = minors_are;
      rule = rule_at;
      ruled = λ W level k group vs s width patterns packed L n back done i below.
          (written_values W L s back n done).1 i below
          ∙ by_the_rule W level 1 k group vs s width patterns packed refl i (omega (arith, counted W level 1 k group vs s width patterns packed L n back done));
      alike = alike_at;
      values = λ W level mode k group vs s width patterns packed L n back done.
          (counted W level mode k group vs s width patterns packed L n back done, unpacked W level mode k group vs s width patterns packed L n back done);
      probe32 = λ L s back n i old bytes done below.
          (probe_as_unpack32 L s back n i done below, probe32_leaves_what_unpack_leaves L s bytes back n i old done below);
      probe64 = λ L s back n i old bytes done below.
          (probe_as_unpack64 L s back n i done below, probe64_leaves_what_unpack_leaves L s bytes back n i old done below);
      lossless = λ W p. lossless_at p W;
      differences = differences_at;
      coded = coded_at;
      decoded = decoded_at;
      within = within_at;
      nearest = nearest_at;
      beyond = beyond_at;
      signed = signed_at;
      restored = restored_at;
      bound = λ W t. bound_at t W;
    }

-- what a reader makes of it
module _ (W level mode : ℕ) (k : ℤ) (group : ℕ) (vs s : List ℕ) (o : Offered W level mode k group vs) (packed : Packed W level mode k group vs s)
    (L : ℕ) (known : known_level L ≡ true) (back : List ℕ) (room : length vs ≤ length back) where
  read_back : ReadBack W mode k group vs s L back
  read_back = go (le_or_lt (need (setting_of W mode k group)) L)
    where
      sent : (parts : List Side) × (some_high (ids_of parts) ≡ false) × Sent level (setting_at level W mode k group) vs parts (need (setting_of W mode k group)) s
      sent = is_sent W level mode k group vs s o.width o.patterns packed

      go : (need (setting_of W mode k group) ≤ L) ⊎ (L < need (setting_of W mode k group)) → ReadBack W mode k group vs s L back
      go (inl reaches) =
          let read = it_is_read (halves_at level) W level mode k group vs (offered W level mode k group vs o) sent.0 (need (setting_of W mode k group)) s sent.2 L known sent.1 refl reaches back room in
          given_back reaches read.1
          (unpacked W level mode k group vs s o.width o.patterns packed L (length vs) back read.1)
          (ap (drop (length vs)) read.2 ∙ drop_at (values s) (drop (length vs) back) (length vs) (as_many W level mode k group vs s o.width o.patterns packed))
      go (inr exceeds) =
          let refused = (it_is_too_new (halves_at level) W level mode k group vs (offered W level mode k group vs o) sent.0 (need (setting_of W mode k group)) s sent.2 L known exceeds).unpack W back in
          too_new exceeds refused.0 refused.1

pub demand_3 : Demand3
unfolding groups_in
demand_3 =
    record {
      levels = levels_at;
      takes = accepted_setting;
      packs = λ W level mode k group vs o.
          let p = offered W level mode k group vs o in (
            length (stream level (setting_at level W mode k group) vs),
            length_is_answered W level mode k group vs p o.known,
            packed_length_bound W level mode k group vs p,
            λ out room. (the_stream_is_packed W level mode k group vs p o.known out room).0,
          );
      needs = needs_at;
      unneeded = needs_13;
      reads = read_back;
      higher = λ level level' s low l known. (
        check_higher level level' s l known,
        unpack_higher level level' s l known,
        probe_higher32 level level' s l known,
        probe_higher64 level level' s l known,
      );
    }

-- side parts of any ids, and any two minors
module _ (W level mode : ℕ) (k : ℤ) (group : ℕ) (vs : List ℕ) (parts : List Side) (written needed : ℕ) (s : List ℕ) (width : known_width W ≡ true) (patterns : Below (2 ^ W) vs)
    (m : WithMinors W level mode k group vs parts written needed s) where
  p : Packable W written mode k group vs
  p = accepted_later W level mode k group vs m.out m.size m.done width patterns written m.later m.fit.0

  sent : Sent written (setting_at level W mode k group) vs parts needed s
  sent = rw m.bytes (accepted_is_raised W level mode k group vs m.out m.size m.done parts m.well_formed written needed m.fit.1)

  module _ (L : ℕ) (known : known_level L ≡ true) where
    older : L < needed → TooNew L s needed
    older = it_is_too_new (halves_at level) W written mode k group vs p parts needed s sent L known

    wrong : needed ≤ L → (RightNeed W mode k group parts written needed → ⊥) → RefusedBy W L s (length vs) BrokenHeader
    wrong = refused_by_8 (halves_at level) W written mode k group vs p parts needed s sent L known

    newer : needed ≤ L → RightNeed W mode k group parts written needed → some_high (ids_of parts) ≡ true → RefusedBy W L s (length vs) (MustBeUnderstood (first_high (ids_of parts)))
    newer reaches right high =
        refused_by_15 (halves_at level) W written mode k group vs p parts needed s sent L known reaches high (right.0 ∙ ap (stream_need (setting_of W mode k group)) high) right.1

    skipped : needed ≤ L → RightNeed W mode k group parts written needed → some_high (ids_of parts) ≡ false → check_answer L s ≡ Ok (length vs)
    unfolding stream_need
    skipped reaches right low =
        (it_is_read (halves_at level) W written mode k group vs p parts needed s sent L known low (right.0 ∙ ap (stream_need (setting_of W mode k group)) low) reaches vs (omega arith)).0

-- the minors as pack wrote them
module _ (W level mode : ℕ) (k : ℤ) (group : ℕ) (vs out : List ℕ) (size : ℕ) (width : known_width W ≡ true) (patterns : Below (2 ^ W) vs) (done : pack_answer W level mode k group vs (length out) ≡ Ok size)
    (parts : List Side) (well : WellFormedSides (size + 12 * length parts) parts) (high : some_high (ids_of parts) ≡ true)
    (L : ℕ) (known : known_level L ≡ true) (reaches : need (setting_of W mode k group) ≤ L) (small : need (setting_of W mode k group) < 12) where
  as_written : WithMinors W level mode k group vs parts level (need (setting_of W mode k group)) (add_sides (take size (pack_out W level mode k group vs out)) parts)
  as_written =
      record {
        out = out;
        size = size;
        done = done;
        well_formed = well;
        later = omega arith;
        fit = ((accepted_list W level mode k group vs out size done width patterns).minor, omega (arith, small));
        bytes = sym (the_minors_as_they_were W level mode k group vs out size done parts);
      }

  too_small : stream_need (setting_of W mode k group) (some_high (ids_of parts)) ≡ need (setting_of W mode k group) → ⊥
  unfolding stream_need
  too_small e = let raised : stream_need (setting_of W mode k group) true ≡ need (setting_of W mode k group) = rw high at e in omega (arith, raised, small)

  unraised : RefusedBy W L (add_sides (take size (pack_out W level mode k group vs out)) parts) (length vs) BrokenHeader
  unraised =
      wrong W level mode k group vs parts level (need (setting_of W mode k group)) (add_sides (take size (pack_out W level mode k group vs out)) parts) width patterns as_written L known reaches
      (λ right. too_small (sym right.0))

pub not_skipped : NotSkipped
not_skipped =
    record {
      high = the_high_ids;
      raised = raised_at;
      packed = λ W level mode k group vs parts written needed s width patterns m L known. (
        older W level mode k group vs parts written needed s width patterns m L known,
        wrong W level mode k group vs parts written needed s width patterns m L known,
        newer W level mode k group vs parts written needed s width patterns m L known,
        skipped W level mode k group vs parts written needed s width patterns m L known,
      );
      unraised = unraised;
      never = a_high_id_is_never_skipped;
    }

pub summary_beside : SummaryBeside
summary_beside =
    record {
      adds = λ L s out n checked. (add_takes L s out n checked, side_parts_are_refused_by_16 L s (length out) n checked);
      added = λ L s out size bytes done. (
        the_copy_fits L s out size done,
        (the_copy_is_left L s out size done).0,
        (the_copy_is_left L s out size done).1,
        the_copy_is_read_as_the_original L s out size done bytes,
        the_summary_that_is_added_is_true L s out size done bytes,
        a_test_accepts_what_is_added L s out size done bytes,
      );
      header = λ L s out size bytes done. only_the_number_of_side_parts_is_another L s out size done bytes;
      tested = a_test_accepts_exactly_the_true_summaries;
      untrue = all_else_is_refused_by_17;
      says = λ L s n checked t. (a_true_summary_has_an_entry_for_each_chunk L s n checked t, a_true_summary_says L s n checked t);
      listed = λ W L x s out k known fits done. (
        the_list_fits W L x s out k done,
        (a_list_is_made_of_a_true_summary W L x s out k done).1,
        the_list_names_exactly W L x s out k done known fits,
        the_list_is_in_order W L x s out k done,
        past_the_list W L x s out k done,
      );
      lists = λ W L x s n known tested width number. a_list_is_given W L x s n tested width (is_a_number W known x number);
      no_number = λ W L x s out known level e. a_not_a_number_is_refused_by_2 W L x s out level ((nan_as W known x).1 e);
      never = a_high_id_is_not_skipped;
    }

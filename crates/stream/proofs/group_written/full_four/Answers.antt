-- The width byte, and behind it four blocks.
use Rattle.std.proofs.Common.{[], ◌++◌, refl, sym, ap₂, ◌∙◌, arith, rules, max}
use mathlib.Core.List.{append-nil}
use Rattle.stream.specs.Group.{packed}
use Rattle.stream.proofs.Law.Group.FullFour.{begun, stands_1, stands_2, stands_3, stands_4, block_fits}
use Rattle.stream.proofs.Law.Group.Records.{at_most_64, blocks_of}
use Rattle.stream.proofs.Law.Plain.Appended.{within, put_within, all_put, all_there}
use Rattle.stream.proofs.group_written.full_four.Goals as goal

pub overflow_cast-out : goal.overflow_cast-out
overflow_cast-out g c =
    record { fits = omega (arith, c.max-w.ensures, c.max-front.ensures, c.max-back.ensures, c.width.ensures.1, c.width-2.ensures.1, c.width-3.ensures.1, c.width-4.ensures.1, at_most_64 g.met.T.Word.formats_law) }

pub bounds-out-0 : goal.bounds-out-0
bounds-out-0 g c =
    let v = g.T.Word.values in
    let a = c.args in
    let w = c.max-w.result in
    let k = blocks_of g.met.T.Word.values_law w a.a a.b a.c a.d (search rules) (search rules) (search rules) (search rules) c.requires.count_value (c.max-w.ensures ∙ ap₂ max (c.max-front.ensures ∙ ap₂ max c.width.ensures.0 c.width-2.ensures.0) (c.max-back.ensures ∙ ap₂ max c.width-3.ensures.0 c.width-4.ensures.0)) in
    let s = begun w _ _ _ _ _ a.out.now k c.requires.codes_in_bounds in
    omega (arith, within _ _ _ _ _ s, s.room)

pub returns-then-w-eq0-clause-value : goal.returns-then-w-eq0-clause-value
returns-then-w-eq0-clause-value g c =
    let v = g.T.Word.values in
    let a = c.args in
    let w = c.max-w.result in
    let k = blocks_of g.met.T.Word.values_law w a.a a.b a.c a.d (search rules) (search rules) (search rules) (search rules) c.requires.count_value (c.max-w.ensures ∙ ap₂ max (c.max-front.ensures ∙ ap₂ max c.width.ensures.0 c.width-2.ensures.0) (c.max-back.ensures ∙ ap₂ max c.width-3.ensures.0 c.width-4.ensures.0)) in
    omega (arith, k.length_is, c.if-w-eq0.true)

pub returns-then-w-eq0-clause-out_after : goal.returns-then-w-eq0-clause-out_after
returns-then-w-eq0-clause-out_after g c =
    let v = g.T.Word.values in
    let a = c.args in
    let w = c.max-w.result in
    let k = blocks_of g.met.T.Word.values_law w a.a a.b a.c a.d (search rules) (search rules) (search rules) (search rules) c.requires.count_value (c.max-w.ensures ∙ ap₂ max (c.max-front.ensures ∙ ap₂ max c.width.ensures.0 c.width-2.ensures.0) (c.max-back.ensures ∙ ap₂ max c.width-3.ensures.0 c.width-4.ensures.0)) in
    all_put _ _ _ _ _ (begun w _ _ _ _ _ a.out.now k c.requires.codes_in_bounds) (omega (arith, k.length_is, c.if-w-eq0.true))

pub slice_bounds-put_codes-count : goal.slice_bounds-put_codes-count
slice_bounds-put_codes-count g c =
    let v = g.T.Word.values in
    let a = c.args in
    let w = c.max-w.result in
    let k = blocks_of g.met.T.Word.values_law w a.a a.b a.c a.d (search rules) (search rules) (search rules) (search rules) c.requires.count_value (c.max-w.ensures ∙ ap₂ max (c.max-front.ensures ∙ ap₂ max c.width.ensures.0 c.width-2.ensures.0) (c.max-back.ensures ∙ ap₂ max c.width-3.ensures.0 c.width-4.ensures.0)) in
    put_within _ _ _ _ _ (begun w _ _ _ _ _ a.out.now k c.requires.codes_in_bounds)

pub slice_bounds-put_codes-start : goal.slice_bounds-put_codes-start
slice_bounds-put_codes-start g c =
    let v = g.T.Word.values in
    let a = c.args in
    let w = c.max-w.result in
    let k = blocks_of g.met.T.Word.values_law w a.a a.b a.c a.d (search rules) (search rules) (search rules) (search rules) c.requires.count_value (c.max-w.ensures ∙ ap₂ max (c.max-front.ensures ∙ ap₂ max c.width.ensures.0 c.width-2.ensures.0) (c.max-back.ensures ∙ ap₂ max c.width-3.ensures.0 c.width-4.ensures.0)) in
    put_within _ _ _ _ _ (begun w _ _ _ _ _ a.out.now k c.requires.codes_in_bounds)

pub put_codes-requires : goal.put_codes-requires
put_codes-requires g c =
    let v = g.T.Word.values in
    let a = c.args in
    let w = c.max-w.result in
    let k = blocks_of g.met.T.Word.values_law w a.a a.b a.c a.d (search rules) (search rules) (search rules) (search rules) c.requires.count_value (c.max-w.ensures ∙ ap₂ max (c.max-front.ensures ∙ ap₂ max c.width.ensures.0 c.width-2.ensures.0) (c.max-back.ensures ∙ ap₂ max c.width-3.ensures.0 c.width-4.ensures.0)) in (
      search rules,
      (
        omega (arith, c.if-w-eq0.false),
        omega (arith, c.max-w.ensures, c.max-front.ensures, c.max-back.ensures, c.width.ensures.1, c.width-2.ensures.1, c.width-3.ensures.1, c.width-4.ensures.1),
        k.below_a,
        block_fits _ _ _ _ _ (begun w _ _ _ _ _ a.out.now k c.requires.codes_in_bounds) w (v a.a.codes) (packed w (v a.b.codes) ++ (packed w (v a.c.codes) ++ packed w (v a.d.codes))) refl k.long_a,
      ),
    )

pub slice_bounds-put_codes-count-2 : goal.slice_bounds-put_codes-count-2
slice_bounds-put_codes-count-2 g c =
    let v = g.T.Word.values in
    let a = c.args in
    let w = c.max-w.result in
    let k = blocks_of g.met.T.Word.values_law w a.a a.b a.c a.d (search rules) (search rules) (search rules) (search rules) c.requires.count_value (c.max-w.ensures ∙ ap₂ max (c.max-front.ensures ∙ ap₂ max c.width.ensures.0 c.width-2.ensures.0) (c.max-back.ensures ∙ ap₂ max c.width-3.ensures.0 c.width-4.ensures.0)) in
    put_within _ _ _ _ _ (stands_1 w _ _ _ _ _ a.out.now k c.requires.codes_in_bounds c.put_codes.new.out c.put_codes.ensures)

pub slice_bounds-put_codes-start-2 : goal.slice_bounds-put_codes-start-2
slice_bounds-put_codes-start-2 g c =
    let v = g.T.Word.values in
    let a = c.args in
    let w = c.max-w.result in
    let k = blocks_of g.met.T.Word.values_law w a.a a.b a.c a.d (search rules) (search rules) (search rules) (search rules) c.requires.count_value (c.max-w.ensures ∙ ap₂ max (c.max-front.ensures ∙ ap₂ max c.width.ensures.0 c.width-2.ensures.0) (c.max-back.ensures ∙ ap₂ max c.width-3.ensures.0 c.width-4.ensures.0)) in
    put_within _ _ _ _ _ (stands_1 w _ _ _ _ _ a.out.now k c.requires.codes_in_bounds c.put_codes.new.out c.put_codes.ensures)

pub put_codes-requires-2 : goal.put_codes-requires-2
put_codes-requires-2 g c =
    let v = g.T.Word.values in
    let a = c.args in
    let w = c.max-w.result in
    let k = blocks_of g.met.T.Word.values_law w a.a a.b a.c a.d (search rules) (search rules) (search rules) (search rules) c.requires.count_value (c.max-w.ensures ∙ ap₂ max (c.max-front.ensures ∙ ap₂ max c.width.ensures.0 c.width-2.ensures.0) (c.max-back.ensures ∙ ap₂ max c.width-3.ensures.0 c.width-4.ensures.0)) in (
      search rules,
      (
        omega (arith, c.if-w-eq0.false),
        omega (arith, c.max-w.ensures, c.max-front.ensures, c.max-back.ensures, c.width.ensures.1, c.width-2.ensures.1, c.width-3.ensures.1, c.width-4.ensures.1),
        k.below_b,
        block_fits _ _ _ _ _ (stands_1 w _ _ _ _ _ a.out.now k c.requires.codes_in_bounds c.put_codes.new.out c.put_codes.ensures) w (v a.b.codes) (packed w (v a.c.codes) ++ packed w (v a.d.codes)) refl k.long_b,
      ),
    )

pub slice_bounds-put_codes-count-3 : goal.slice_bounds-put_codes-count-3
slice_bounds-put_codes-count-3 g c =
    let v = g.T.Word.values in
    let a = c.args in
    let w = c.max-w.result in
    let k = blocks_of g.met.T.Word.values_law w a.a a.b a.c a.d (search rules) (search rules) (search rules) (search rules) c.requires.count_value (c.max-w.ensures ∙ ap₂ max (c.max-front.ensures ∙ ap₂ max c.width.ensures.0 c.width-2.ensures.0) (c.max-back.ensures ∙ ap₂ max c.width-3.ensures.0 c.width-4.ensures.0)) in
    put_within _ _ _ _ _ (stands_2 w _ _ _ _ _ a.out.now k c.requires.codes_in_bounds c.put_codes.new.out c.put_codes.ensures c.put_codes-2.new.out c.put_codes-2.ensures)

pub slice_bounds-put_codes-start-3 : goal.slice_bounds-put_codes-start-3
slice_bounds-put_codes-start-3 g c =
    let v = g.T.Word.values in
    let a = c.args in
    let w = c.max-w.result in
    let k = blocks_of g.met.T.Word.values_law w a.a a.b a.c a.d (search rules) (search rules) (search rules) (search rules) c.requires.count_value (c.max-w.ensures ∙ ap₂ max (c.max-front.ensures ∙ ap₂ max c.width.ensures.0 c.width-2.ensures.0) (c.max-back.ensures ∙ ap₂ max c.width-3.ensures.0 c.width-4.ensures.0)) in
    put_within _ _ _ _ _ (stands_2 w _ _ _ _ _ a.out.now k c.requires.codes_in_bounds c.put_codes.new.out c.put_codes.ensures c.put_codes-2.new.out c.put_codes-2.ensures)

pub put_codes-requires-3 : goal.put_codes-requires-3
put_codes-requires-3 g c =
    let v = g.T.Word.values in
    let a = c.args in
    let w = c.max-w.result in
    let k = blocks_of g.met.T.Word.values_law w a.a a.b a.c a.d (search rules) (search rules) (search rules) (search rules) c.requires.count_value (c.max-w.ensures ∙ ap₂ max (c.max-front.ensures ∙ ap₂ max c.width.ensures.0 c.width-2.ensures.0) (c.max-back.ensures ∙ ap₂ max c.width-3.ensures.0 c.width-4.ensures.0)) in (
      search rules,
      (
        omega (arith, c.if-w-eq0.false),
        omega (arith, c.max-w.ensures, c.max-front.ensures, c.max-back.ensures, c.width.ensures.1, c.width-2.ensures.1, c.width-3.ensures.1, c.width-4.ensures.1),
        k.below_c,
        block_fits _ _ _ _ _ (stands_2 w _ _ _ _ _ a.out.now k c.requires.codes_in_bounds c.put_codes.new.out c.put_codes.ensures c.put_codes-2.new.out c.put_codes-2.ensures) w (v a.c.codes) (packed w (v a.d.codes)) refl k.long_c,
      ),
    )

pub slice_bounds-put_codes-count-4 : goal.slice_bounds-put_codes-count-4
slice_bounds-put_codes-count-4 g c =
    let v = g.T.Word.values in
    let a = c.args in
    let w = c.max-w.result in
    let k = blocks_of g.met.T.Word.values_law w a.a a.b a.c a.d (search rules) (search rules) (search rules) (search rules) c.requires.count_value (c.max-w.ensures ∙ ap₂ max (c.max-front.ensures ∙ ap₂ max c.width.ensures.0 c.width-2.ensures.0) (c.max-back.ensures ∙ ap₂ max c.width-3.ensures.0 c.width-4.ensures.0)) in
    put_within _ _ _ _ _ (stands_3 w _ _ _ _ _ a.out.now k c.requires.codes_in_bounds c.put_codes.new.out c.put_codes.ensures c.put_codes-2.new.out c.put_codes-2.ensures c.put_codes-3.new.out c.put_codes-3.ensures)

pub slice_bounds-put_codes-start-4 : goal.slice_bounds-put_codes-start-4
slice_bounds-put_codes-start-4 g c =
    let v = g.T.Word.values in
    let a = c.args in
    let w = c.max-w.result in
    let k = blocks_of g.met.T.Word.values_law w a.a a.b a.c a.d (search rules) (search rules) (search rules) (search rules) c.requires.count_value (c.max-w.ensures ∙ ap₂ max (c.max-front.ensures ∙ ap₂ max c.width.ensures.0 c.width-2.ensures.0) (c.max-back.ensures ∙ ap₂ max c.width-3.ensures.0 c.width-4.ensures.0)) in
    put_within _ _ _ _ _ (stands_3 w _ _ _ _ _ a.out.now k c.requires.codes_in_bounds c.put_codes.new.out c.put_codes.ensures c.put_codes-2.new.out c.put_codes-2.ensures c.put_codes-3.new.out c.put_codes-3.ensures)

pub put_codes-requires-4 : goal.put_codes-requires-4
put_codes-requires-4 g c =
    let v = g.T.Word.values in
    let a = c.args in
    let w = c.max-w.result in
    let k = blocks_of g.met.T.Word.values_law w a.a a.b a.c a.d (search rules) (search rules) (search rules) (search rules) c.requires.count_value (c.max-w.ensures ∙ ap₂ max (c.max-front.ensures ∙ ap₂ max c.width.ensures.0 c.width-2.ensures.0) (c.max-back.ensures ∙ ap₂ max c.width-3.ensures.0 c.width-4.ensures.0)) in (
      search rules,
      (
        omega (arith, c.if-w-eq0.false),
        omega (arith, c.max-w.ensures, c.max-front.ensures, c.max-back.ensures, c.width.ensures.1, c.width-2.ensures.1, c.width-3.ensures.1, c.width-4.ensures.1),
        k.below_d,
        block_fits _ _ _ _ _ (stands_3 w _ _ _ _ _ a.out.now k c.requires.codes_in_bounds c.put_codes.new.out c.put_codes.ensures c.put_codes-2.new.out c.put_codes-2.ensures c.put_codes-3.new.out c.put_codes-3.ensures) w (v a.d.codes) ([]) (sym (append-nil (packed w (v a.d.codes)))) k.long_d,
      ),
    )

pub returns-clause-value : goal.returns-clause-value
returns-clause-value g c =
    let v = g.T.Word.values in
    let a = c.args in
    let w = c.max-w.result in
    let k = blocks_of g.met.T.Word.values_law w a.a a.b a.c a.d (search rules) (search rules) (search rules) (search rules) c.requires.count_value (c.max-w.ensures ∙ ap₂ max (c.max-front.ensures ∙ ap₂ max c.width.ensures.0 c.width-2.ensures.0) (c.max-back.ensures ∙ ap₂ max c.width-3.ensures.0 c.width-4.ensures.0)) in
    k.length_is

pub returns-clause-out_after : goal.returns-clause-out_after
returns-clause-out_after g c =
    let v = g.T.Word.values in
    let a = c.args in
    let w = c.max-w.result in
    let k = blocks_of g.met.T.Word.values_law w a.a a.b a.c a.d (search rules) (search rules) (search rules) (search rules) c.requires.count_value (c.max-w.ensures ∙ ap₂ max (c.max-front.ensures ∙ ap₂ max c.width.ensures.0 c.width-2.ensures.0) (c.max-back.ensures ∙ ap₂ max c.width-3.ensures.0 c.width-4.ensures.0)) in
    all_there _ _ _ _ (stands_4 w _ _ _ _ _ a.out.now k c.requires.codes_in_bounds c.put_codes.new.out c.put_codes.ensures c.put_codes-2.new.out c.put_codes-2.ensures c.put_codes-3.new.out c.put_codes-3.ensures c.put_codes-4.new.out c.put_codes-4.ensures)

-- `blocks::block32::word32` meets its contract: the code that the bit stands in, without the bits before it, and codes above it until the word is full.
use mathlib.Core.Path.{◌≡◌, ap, ◌∙◌}
use Prim.Native.Nat.{ℕ, ◌+◌, ◌*◌, ◌/◌, ◌%◌, ◌^◌, ◌<◌}
use native.Mathlib.Nat.{mod-lt, mul-add, mul-one, le_of_lt}
use native.Mathlib.Omega.{arith}
use lib.Pow.{pow_pos}
use Rattle.blocks.specs.Bytes.{number}
use Rattle.blocks.proofs.Law.Word.{word_more, word_full, word_all, word_first, word_code, word_end, first_lt, skip_lt, whole, start_is, code_is, all_under}
use Rattle.blocks.proofs.block32.word32.Goals as goal

more : (n w bit i fill word c : ℕ) → fill < 64 → fill + bit ≡ w * i → word ≡ n / 2 ^ bit % 2 ^ fill % 2 ^ 64 → c ≡ n / 2 ^ (w * i) % 2 ^ w
    → word + c * 2 ^ fill % 2 ^ 64 ≡ n / 2 ^ bit % 2 ^ (fill + w) % 2 ^ 64
more n w bit i fill word c h place e f = word_more (n / 2 ^ bit) fill word e w c h (word_code n w (w * i) fill bit c place f)

pub loop-i-init : goal.loop-i-init
loop-i-init c =
    let w = c.args.w in
    let bit = 64 * c.args.k in
    let some = c.requires.0 in (
      start_is w bit some,
      word_first (number (2 ^ w) c.args.c.now) w (w * (bit / w)) (bit % w) bit c.from.result (whole w bit some) (le_of_lt (skip_lt w bit some))
          (omega (arith, c.requires.1)) (c.from.ensures ∙ code_is w c.args.c.now c.requires.4 (bit / w)),
    )

pub returns-then-fill-ge64 : goal.returns-then-fill-ge64
returns-then-fill-ge64 c = let l = c.loop-i in word_full _ l.fill l.word l.invariant.1 c.if-fill-ge64.true

pub overflow_add-word : goal.overflow_add-word
overflow_add-word c =
    let l = c.loop-i in
    let w = c.args.w in
    let bit = 64 * c.args.k in
    let n = number (2 ^ w) c.args.c.now in
    record {
      fits =
          rw (more n w bit l.i l.fill l.word _ (omega arith) l.invariant.0 l.invariant.1 (c.from-in-loop-i.ensures ∙ code_is w c.args.c.now c.requires.4 l.i))
          (mod-lt (n / 2 ^ bit % 2 ^ (l.fill + w)) (pow_pos 64));
    }

pub loop-i-preserved : goal.loop-i-preserved
loop-i-preserved c =
    let l = c.loop-i in
    let w = c.args.w in
    let n = number (2 ^ w) c.args.c.now in (
      omega (arith, l.invariant.0, mul-add w l.i 1, mul-one w),
      more n w (64 * c.args.k) l.i l.fill l.word _ (omega arith) l.invariant.0 l.invariant.1 (c.from-in-loop-i.ensures ∙ code_is w c.args.c.now c.requires.4 l.i),
    )

pub returns : goal.returns
returns c =
    let l = c.loop-i in
    let w = c.args.w in
    let bit = 64 * c.args.k in
    let n = number (2 ^ w) c.args.c.now in
    let end : l.i ≡ 32 = omega (arith, first_lt w bit c.requires.0 32 (omega (arith, c.requires.2))) in
    word_all (n / 2 ^ bit) l.fill l.word l.invariant.1
    (word_end n w l.fill bit 32 (l.invariant.0 ∙ ap (λ (i : ℕ). w * i) end) (all_under w c.args.c.now c.requires.4 32 c.requires.3))

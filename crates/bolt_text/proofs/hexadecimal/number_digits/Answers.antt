use Rattle.std.proofs.Common.{◌≡◌, ◌∙◌, ◌+◌, ◌-◌, ◌∷◌, ℕ, false, ap, arith, drop, slice_set, take}
use Rattle.std.proofs.lemmas.List.{drop-set, drop_all, length-drop, length-set, take_all}
use Rattle.std.specs.Fmt.{digit_glyph}
use Rattle.bolt_text.proofs.HexNumbers.{begins, ends, goes_on, is_inside, smaller}
use Rattle.bolt_text.proofs.hexadecimal.number_digits.Goals as goal

pub digits-init : goal.digits-init
digits-init c = record {
  text = begins c.args.n _ (let long = c.told-buffer in drop_all 16 c.args.buffer.now (omega (arith, long)));
  fits = let fits = c.ranges.n.fits in omega (arith, fits);
  long = c.told-buffer;
  low = omega arith;
}

pub overflow_sub-at-in-digits : goal.overflow_sub-at-in-digits
overflow_sub-at-in-digits c = is_inside c.digits.at c.digits.rest c.digits-test.true c.digits.invariant.fits

pub digits-smaller : goal.digits-smaller
digits-smaller c = let inside = is_inside c.digits.at c.digits.rest c.digits-test.true c.digits.invariant.fits in omega (arith, inside)

pub digits-preserved : goal.digits-preserved
digits-preserved c =
    let inside = is_inside c.digits.at c.digits.rest c.digits-test.true c.digits.invariant.fits in
    let next : c.digits.at - 1 + 1 ≡ c.digits.at = omega (arith, inside) in
    let long = c.digits.invariant.long in
    let low = c.digits.invariant.low in
    record {
      text = goes_on c.digits.at c.digits.rest c.digit_glyph.result (drop (c.digits.at + 1) c.digits.buffer) _ _ c.digits-test.true c.digits.invariant.fits
          c.digits.invariant.text c.digit_glyph.ensures
          (ap (λ (i : ℕ). drop i (slice_set c.digits.buffer c.digits.at c.digit_glyph.result)) next
          ∙ drop-set c.digits.buffer c.digits.at c.digit_glyph.result (omega (arith, long, low)));
      fits = smaller c.digits.at c.digits.rest c.digits-test.true c.digits.invariant.fits;
      long = length-set c.digits.buffer c.digits.at c.digit_glyph.result ∙ long;
      low = omega (arith, low);
    }

pub returns : goal.returns
returns c =
    let long = c.digits.invariant.long in
    let low = c.digits.invariant.low in
    let all : take (16 - c.digits.at) (drop c.digits.at (slice_set c.digits.buffer c.digits.at c.digit_glyph-2.result))
    ≡ digit_glyph false c.digits.rest ∷ drop (c.digits.at + 1) c.digits.buffer
    = take_all _ _ (omega (
      arith,
      length-drop c.digits.at (slice_set c.digits.buffer c.digits.at c.digit_glyph-2.result),
      length-set c.digits.buffer c.digits.at c.digit_glyph-2.result,
      long,
    ))
    ∙ drop-set c.digits.buffer c.digits.at c.digit_glyph-2.result (omega (arith, long, low))
    ∙ ap (λ (d : ℕ). d ∷ drop (c.digits.at + 1) c.digits.buffer) c.digit_glyph-2.ensures in
    all ∙ ends c.digits.at c.digits.rest _ _ c.digits-test.false c.digits.invariant.text

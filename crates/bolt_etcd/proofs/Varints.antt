-- Varints: what the bytes so far make of the whole.
use Rattle.std.proofs.Common.{◌≡◌, ◌∙◌, ℕ, suc, ◌+◌, ◌-◌, ◌*◌, ◌<◌, ◌≤◌, ◌^◌, ◌%◌, bit_and, bit_or, add-zero, sym, List, [], ◌∷◌, Some, None, refl}
use Rattle.std.proofs.Common.{ap, arith, length}
use Rattle.std.proofs.lemmas.Bool.{lt-ltb, le-ltb}
use Rattle.std.proofs.lemmas.Nat.{and_mask, mod_low, mod-pow-add, mul-le, or_comm, or_shifted, pow-add, shl-shr, shr_high}
use Rattle.std.proofs.Math.Nat.{mul-mod_left}
use Rattle.bolt_etcd.specs.Wire.Fields.{◌>>=◌, Read, varint, varint_within}

-- the number whose low bits are known, where the other bits are read
abbrev pub after : ℕ → ℕ → Read ℕ → Read ℕ
after low unit None = None
after low unit (Some x) = Some ((low + unit * x.0) % 2 ^ 64, x.1)

after_none : (read : Read ℕ) → (read >>= λ n. Some (n.0 % 2 ^ 64, n.1)) ≡ after 0 1 read
after_none None = refl
after_none (Some x) = let e : x.0 ≡ 0 + 1 * x.0 = omega arith in ap (λ (n : ℕ). Some (n % 2 ^ 64, x.1)) e

-- bits above those that are known
joined : (s j low bits : ℕ) → low < 2 ^ s → bit_or low ((bits * 2 ^ s) % 2 ^ (j + s)) ≡ (low + 2 ^ s * bits) % 2 ^ (j + s)
joined s j low bits h =
    let shifted : (bits * 2 ^ s) % 2 ^ (j + s) ≡ (bits % 2 ^ j) * 2 ^ s = mod-pow-add (bits * 2 ^ s) j s ∙ simp (shl-shr, mul-mod_left, add-zero) in
    let all : (bits * 2 ^ s + low) % 2 ^ (j + s) ≡ (bits % 2 ^ j) * 2 ^ s + low =
    mod-pow-add (bits * 2 ^ s + low) j s ∙ rw (shr_high bits s low h, mod_low bits s low h) refl in
    let turned : bits * 2 ^ s + low ≡ low + 2 ^ s * bits = grind arith in
    rw shifted (or_comm low ((bits % 2 ^ j) * 2 ^ s) ∙ or_shifted (bits % 2 ^ j) s low h ∙ sym all ∙ ap (λ (n : ℕ). n % 2 ^ (j + s)) turned)

-- seven more bits
pub record Adds (i low bits : ℕ) : Type 0 where
  pub last : bit_or low ((bits * 2 ^ (7 * i)) % 2 ^ 64) ≡ (low + 2 ^ (7 * i) * bits) % 2 ^ 64
  pub below : low + 2 ^ (7 * i) * bits < 2 ^ (7 * (i + 1))
  pub more : (high : ℕ) → low + 2 ^ (7 * i) * (bits + 128 * high) ≡ (low + 2 ^ (7 * i) * bits) + 2 ^ (7 * (i + 1)) * high

pub adds : (i low bits : ℕ) → i < 10 → low < 2 ^ (7 * i) → bits < 128 → Adds i low bits
adds i low bits lt h k =
    let wide : (64 - 7 * i) + 7 * i ≡ 64 = omega arith in
    let unit : 2 ^ (7 * (i + 1)) ≡ 2 ^ (7 * i) * 128 = (let e : 7 * (i + 1) ≡ 7 * i + 7 = omega arith in rw e (pow-add 2 (7 * i) 7)) in
    let room : 2 ^ (7 * i) * (bits + 1) ≤ 2 ^ (7 * i) * 128 = mul-le (2 ^ (7 * i)) (bits + 1) (2 ^ (7 * i)) 128 (omega arith) (omega arith) in
    let one : 2 ^ (7 * i) * (bits + 1) ≡ 2 ^ (7 * i) * bits + 2 ^ (7 * i) = grind arith in
    record {
      last = rw wide at (joined (7 * i) (64 - 7 * i) low bits h);
      below = omega (arith, unit, room, one);
      more = λ high. rw unit (grind arith);
    }

-- The bytes so far, i in number, are the low bits.
pub record Goes (bytes : List ℕ) (i low : ℕ) (rest : List ℕ) : Type 0 where
  pub same : varint bytes ≡ after low (2 ^ (7 * i)) (varint_within (10 - i) rest)
  pub below : i < 10 → low < 2 ^ (7 * i)
  pub count : length rest + i ≤ length bytes

pub starts : (bytes : List ℕ) → Goes bytes 0 0 bytes
unfolding varint
starts bytes = record { same = after_none (varint_within 10 bytes); below = λ _. omega arith; count = omega arith }

next : (i low b : ℕ) (read : Read ℕ) → Adds i low (b % 128)
    → after low (2 ^ (7 * i)) (read >>= λ high. Some (b % 128 + 128 * high.0, high.1))
    ≡ after (bit_or low ((b % 128 * 2 ^ (7 * i)) % 2 ^ 64)) (2 ^ (7 * (i + 1))) read
next i low b None a = refl
next i low b (Some x) a = ap (λ (n : ℕ). Some (n, x.1)) (rw (a.more x.0, a.last) (omega arith))

module _ {bytes : List ℕ} {i low : ℕ} where
  -- a byte that isn't the last
  pub goes_on : (rest later : List ℕ) (b bits : ℕ) → Goes bytes i low rest → i < 10 → rest ≡ b ∷ later → 128 ≤ b → bits ≡ bit_and b 0x7F
      → Goes bytes (i + 1) (bit_or low ((bits * 2 ^ (7 * i)) % 2 ^ 64)) later
  unfolding varint_within
  goes_on rest later b bits g lt front k e =
      let low_bits : bits ≡ b % 128 = e ∙ and_mask b 7 in
      let a = adds i low (b % 128) lt (g.below lt) (omega arith) in
      let some_left : 10 - i ≡ suc (10 - (i + 1)) = omega arith in
      record {
        same = rw low_bits (g.same ∙ rw (front, some_left, le-ltb b 128 k) (next i low b (varint_within (10 - (i + 1)) later) a));
        below = λ _. rw (low_bits, a.last) (omega (arith, a.below));
        count = omega (arith, ap length front, g.count);
      }

  -- the last byte
  pub ends : (rest later : List ℕ) (b bits : ℕ) → Goes bytes i low rest → i < 10 → rest ≡ b ∷ later → b < 128 → bits ≡ bit_and b 0x7F
      → varint bytes ≡ Some (bit_or low ((bits * 2 ^ (7 * i)) % 2 ^ 64), later)
  unfolding varint_within
  ends rest later b bits g lt front k e =
      let some_left : 10 - i ≡ suc (9 - i) = omega arith in
      let whole : bits ≡ b = omega (arith, and_mask b 7) in
      let sum = (adds i low b lt (g.below lt) k).last in
      rw whole (g.same ∙ rw (front, some_left, lt-ltb b 128 k, sum) refl)

  -- no byte is left
  pub stops : (rest : List ℕ) → Goes bytes i low rest → i < 10 → length rest ≡ 0 → varint bytes ≡ None
  unfolding varint_within
  stops [] g lt h = let some_left : 10 - i ≡ suc (9 - i) = omega arith in g.same ∙ rw some_left refl
  stops (b ∷ rest) g lt h = absurd (omega arith)

  -- of ten bytes none is the last
  pub too_long : (rest : List ℕ) → Goes bytes i low rest → 10 ≤ i → varint bytes ≡ None
  unfolding varint_within
  too_long rest g le = let none_left : 10 - i ≡ 0 = omega arith in g.same ∙ rw none_left refl

pub ruleset reading = (starts, goes_on, ends, stops, too_long)

-- ---- at once

pub one_byte : (bytes rest : List ℕ) (b n : ℕ) → bytes ≡ b ∷ rest → b < 128 → n ≡ b → varint bytes ≡ Some (n, rest)
unfolding varint varint_within
one_byte bytes rest b n front k same = let low : b % 2 ^ 64 ≡ b = omega arith in rw (front, same, lt-ltb b 128 k) (ap (λ (x : ℕ). Some (x, rest)) low)

pub no_byte : (bytes : List ℕ) → length bytes ≡ 0 → varint bytes ≡ None
unfolding varint varint_within
no_byte [] none = refl
no_byte (b ∷ bytes) none = absurd (omega arith)

pub ruleset short = (one_byte, no_byte)

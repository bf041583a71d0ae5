-- One word, flag, source and core there and back. Assumes nothing.
--   word_back, flag_back, source_back, core_back    read from the bytes that were written for it, it is the same
--   is_flag, source_flagged, core_flagged           what was written for its flags are flags
--   word_part, source_part, core_part               written as it was read, its bytes are the same
use Prim.Native.Nat.{ℕ, zero, suc, ◌+◌, ◌*◌, ◌/◌, ◌%◌, ◌<◌, ◌≤◌}
use mathlib.Core.Path.{◌≡◌, refl, ◌∙◌, ap}
use mathlib.Core.List.{List, [], ◌∷◌, ◌++◌}
use mathlib.Core.Bool.{Bool, true, false, ◌&&◌}
use native.Mathlib.Omega.{arith}
use native.Mathlib.Numerals.{towards_suc}
use lib.ListN.{length, get_or, take, drop}
use lib.Seq.{get_or-drop, drop-cons}
use lib.Dec.{eqb, leb}
use borrow.Author.Tests.{leb-true}
use Rattle.lists.proofs.Bools.{and_l, and_r}
use Rattle.model.specs.declared.Source.{Source}
use Rattle.model.specs.declared.Core.{Core}
use Rattle.layout.specs.Bytes.{word, flag_byte, word_at, flag_at, is_flag_at, source_bytes, core_bytes, source_from, core_from, source_flags}
use Rattle.layout.specs.Bytes.{core_flags}

-- ---- reading what was written

pub word_back : (x : ℕ) → x % 256 + 256 * (x / 256) ≡ x
word_back x = omega arith

pub flag_back : (x : Bool) → eqb (flag_byte x) 1 ≡ x
flag_back true = refl
flag_back false = refl

pub is_flag : (x : Bool) → leb (flag_byte x) 1 ≡ true
is_flag true = refl
is_flag false = refl

-- the bytes v stand at a place of b; k is j behind that place
module _ (b v : List ℕ) (at : ℕ) (e : drop at b ≡ v) (j k : ℕ) (ek : k ≡ at + j) where
  byte_there : get_or b k 0 ≡ get_or v j 0
  byte_there = rw (ek, ← get_or-drop at b j 0, e)

  flag_there : (x : Bool) → get_or v j 0 ≡ flag_byte x → flag_at b k ≡ x
  flag_there x f = rw (byte_there, f) (flag_back x)

  is_flag_there : (x : Bool) → get_or v j 0 ≡ flag_byte x → is_flag_at b k ≡ true
  is_flag_there x f = rw (byte_there, f) (is_flag x)

word_there :
    (b v : List ℕ) (at : ℕ) → drop at b ≡ v → (j k : ℕ) → k ≡ at + j → (x : ℕ) → get_or v j 0 ≡ x % 256 → get_or v (j + 1) 0 ≡ x / 256 →
    word_at b k ≡ x
word_there b v at e j k ek x low high =
    rw (byte_there b v at e j k ek, byte_there b v at e (j + 1) (k + 1) (omega arith), low, high) (word_back x)

module _ (b rest : List ℕ) (at : ℕ) (r : Source) (e : drop at b ≡ source_bytes r ++ rest) where
  pub source_back : source_from b at ≡ r
  source_back =
      let v = source_bytes r ++ rest in
      rw (
        word_there b v at e 0 at (omega arith) r.configured refl refl,
        flag_there b v at e 2 (at + 2) refl r.masked refl,
        flag_there b v at e 3 (at + 3) refl r.pending refl,
        flag_there b v at e 4 (at + 4) refl r.delivered refl,
        word_there b v at e 5 (at + 5) refl r.priority refl refl,
        word_there b v at e 7 (at + 7) refl r.dropped refl refl,
      )

  pub source_flagged : source_flags b at ≡ true
  source_flagged =
      let v = source_bytes r ++ rest in
      rw (
        is_flag_there b v at e 2 (at + 2) refl r.masked refl,
        is_flag_there b v at e 3 (at + 3) refl r.pending refl,
        is_flag_there b v at e 4 (at + 4) refl r.delivered refl,
      )

module _ (b rest : List ℕ) (at : ℕ) (c : Core) (e : drop at b ≡ core_bytes c ++ rest) where
  pub core_back : core_from b at ≡ c
  core_back =
      let v = core_bytes c ++ rest in
      rw (
        word_there b v at e 0 at (omega arith) c.configured refl refl,
        flag_there b v at e 2 (at + 2) refl c.message.filled refl,
        flag_there b v at e 3 (at + 3) refl c.message.dirty refl,
        word_there b v at e 4 (at + 4) refl c.message.source.0 refl refl,
        word_there b v at e 6 (at + 6) refl c.message.priority refl refl,
      )

  pub core_flagged : core_flags b at ≡ true
  core_flagged =
      let v = core_bytes c ++ rest in
      rw (
        is_flag_there b v at e 2 (at + 2) refl c.message.filled refl,
        is_flag_there b v at e 3 (at + 3) refl c.message.dirty refl,
      )

-- ---- writing what was read

flag_of : (x : ℕ) → x ≤ 1 → flag_byte (eqb x 1) ≡ x
flag_of zero h = refl
flag_of (suc zero) h = refl
flag_of (suc (suc x)) h = absurd (omega arith)

-- the n bytes of b from a place on
bytes : ℕ → List ℕ → ℕ → List ℕ
bytes zero b at = []
bytes (suc n) b at = get_or b at 0 ∷ bytes n b (suc at)

part_bytes : (n : ℕ) (b : List ℕ) (at : ℕ) → at + n ≤ length b → take n (drop at b) ≡ bytes n b at
unfolding bytes
part_bytes zero b at h = refl
part_bytes (suc n) b at h =
    ap (take (suc n)) (drop-cons b at 0 (omega arith)) ∙ ap (λ (l : List ℕ). get_or b at 0 ∷ l) (part_bytes n b (suc at) (omega arith))

module _ (b : List ℕ) (are : (i : ℕ) → get_or b i 0 < 256) where
  low : (i : ℕ) → word_at b i % 256 ≡ get_or b i 0
  low i = omega (arith, are i)

  high : (i : ℕ) → word_at b i / 256 ≡ get_or b (i + 1) 0
  high i = omega (arith, are i)

  flag_kept : (i : ℕ) → is_flag_at b i ≡ true → flag_byte (flag_at b i) ≡ get_or b i 0
  flag_kept i e = flag_of (get_or b i 0) (leb-true (get_or b i 0) 1 e)

  module _ (at : ℕ) where
    pub word_part : at + 2 ≤ length b → word (word_at b at) ≡ take 2 (drop at b)
    unfolding bytes
    word_part h = rw (part_bytes 2 b at h, low at, high at) (simp towards_suc)

    pub source_part : at + 9 ≤ length b → source_flags b at ≡ true → source_bytes (source_from b at) ≡ take 9 (drop at b)
    unfolding bytes
    source_part h f =
        let two : Bool = is_flag_at b (at + 2) && is_flag_at b (at + 3) in
        let both : two ≡ true = and_l two (is_flag_at b (at + 4)) f in
        let masked = flag_kept (at + 2) (and_l (is_flag_at b (at + 2)) (is_flag_at b (at + 3)) both) in
        let pending = flag_kept (at + 3) (and_r (is_flag_at b (at + 2)) (is_flag_at b (at + 3)) both) in
        let delivered = flag_kept (at + 4) (and_r two (is_flag_at b (at + 4)) f) in
        rw (
          part_bytes 9 b at h,
          low at,
          high at,
          masked,
          pending,
          delivered,
          low (at + 5),
          high (at + 5),
          low (at + 7),
          high (at + 7),
        ) (simp towards_suc)

    pub core_part : at + 8 ≤ length b → core_flags b at ≡ true → core_bytes (core_from b at) ≡ take 8 (drop at b)
    unfolding bytes
    core_part h f =
        let filled = flag_kept (at + 2) (and_l (is_flag_at b (at + 2)) (is_flag_at b (at + 3)) f) in
        let dirty = flag_kept (at + 3) (and_r (is_flag_at b (at + 2)) (is_flag_at b (at + 3)) f) in
        rw (part_bytes 8 b at h, low at, high at, filled, dirty, low (at + 4), high (at + 4), low (at + 6), high (at + 6))
        (simp towards_suc)

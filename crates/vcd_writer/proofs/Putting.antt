-- Bytes put before an offset, from a text's end to its front. Assumes nothing.
--   put_none, put_before, put_one     nothing is put; bytes right before those that are; one byte
--   put_length                        the buffer keeps its length
--   room_last, room_first             room for two parts: for the last, and once that is put for the first
use Prim.Native.Nat.{ℕ, ◌-◌, ◌<◌}
use mathlib.Core.Path.{◌≡◌, refl, sym, ap, ◌∙◌}
use mathlib.Core.List.{List, [], ◌∷◌, ◌++◌}
use lib.ListN.{length, set, length-append}
use lib.Seq.{sets, length-sets}
use native.Mathlib.Omega.{arith}
use Rattle.lists.proofs.Writes.{sets_before}
use Rattle.vcd_writer.specs.Lines.{Room, Put}

pub put_none : {b : List ℕ} {end : ℕ} → Put b end [] end b
put_none = record { place = omega arith; stored = refl }

module _ {b b₁ : List ℕ} {end at : ℕ} {ys : List ℕ} (p : Put b end ys at b₁) where
  pub put_length : length b₁ ≡ length b
  put_length = ap length p.stored ∙ length-sets b at ys

  pub put_before : {start : ℕ} {xs b₂ : List ℕ} → Put b₁ at xs start b₂ → Put b end (xs ++ ys) start b₂
  put_before {start} {xs} q =
      record {
        place = omega (arith, length-append xs ys, p.place, q.place);
        stored =
            q.stored ∙ ap (λ (l : List ℕ). sets l start xs) p.stored
            ∙ sets_before b start at xs ys (sym q.place);
      }

  pub put_one : {x : ℕ} {b₂ : List ℕ} → 0 < at → b₂ ≡ set b₁ (at - 1) x → Put b end (x ∷ ys) (at - 1) b₂
  put_one {x} h e = put_before {xs = x ∷ []} (record { place = omega arith; stored = e })

-- room for both of two parts is room for the last, and then for the first
module _ (xs ys : List ℕ) {end : ℕ} {b : List ℕ} (room : Room (xs ++ ys) end b) where
  pub room_last : Room ys end b
  room_last = record { long = omega (arith, length-append xs ys, room.long); inside = room.inside }

  pub room_first : {at : ℕ} {b₁ : List ℕ} → Put b end ys at b₁ → Room xs at b₁
  room_first p =
      record {
        long = omega (arith, length-append xs ys, room.long, p.place);
        inside = omega (arith, put_length p, room.inside, p.place);
      }

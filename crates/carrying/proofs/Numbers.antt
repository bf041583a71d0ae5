-- Numbers written as bytes. Assumes nothing.
--   low_le_4, low_le_8    the lowest bytes of a number are those of `to_le_bytes`
--   put_sets              a part of the bytes that is written over, as a run of stores
use Prim.Native.Nat.{ℕ, ◌+◌, ◌-◌, ◌≤◌}
use mathlib.Core.Path.{◌≡◌, sym, ◌∙◌}
use mathlib.Core.List.{List, append_assoc}
use native.Mathlib.Omega.{arith}
use native.Mathlib.Nat.{div-div-eq-div-mul}
use borrow.Rule.Slice.PartMut.{put_mid}
use lib.ListN.{length, take, drop}
use Rattle.std.specs.Int.{w32, w64, to_le_bytes}
use Rattle.std.proofs.lemmas.List.Edits.{sets, sets-eq, paste_all}
use Rattle.std.proofs.lemmas.Slice.{put_mid-paste}
use Rattle.recording.specs.Carrying.{low_bytes}

pub low_le_4 : (x : ℕ) → to_le_bytes w32 x ≡ low_bytes 4 x
low_le_4 x = simp div-div-eq-div-mul

pub low_le_8 : (x : ℕ) → to_le_bytes w64 x ≡ low_bytes 8 x
low_le_8 x = simp div-div-eq-div-mul

pub put_sets :
    (b ys vs : List ℕ) (i k : ℕ) → ys ≡ vs → length vs ≡ k → i + k ≤ length b → put_mid i (i + k - i) b ys ≡ sets b i vs
put_sets b ys vs i k e size fits =
    put_mid-paste i (i + k - i) b ys vs k e (omega arith) (sym size) ∙ paste_all b i vs k (sym size) ∙
    sym (rw size at (sets-eq vs b i (omega arith)) ∙ append_assoc (take i b) vs (drop (i + k) b))

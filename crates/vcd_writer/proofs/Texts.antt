-- The text of a row of commands, by the numbers in its bytes, a command at a time. Assumes nothing.
--   MeasuredTo, measured_none, measured_one        the length of the text of the first commands
--   WrittenFrom                                    the text from a command on is written: the text before it, written too, gives the whole
--   written_none, written_room, written_one        nothing is written; there is room for one more command; it is written
--   written_first, written_all                     only the definitions are left: there is room for them; they are written
use Prim.Native.Nat.{ℕ, suc, ◌+◌, ◌*◌, ◌^◌, ◌<◌, ◌≤◌}
use mathlib.Core.Path.{◌≡◌, refl, sym, ap, ◌∙◌}
use mathlib.Core.List.{List, ◌++◌, append-nil, append_assoc}
use lib.ListN.{length, length-append}
use lib.Seq.{sets}
use native.Mathlib.Numerals.{add-one}
use native.Mathlib.Omega.{arith}
use Rattle.lists.specs.Rows.{gather, joined}
use Rattle.lists.proofs.Writes.{sets_before}
use Rattle.recording.specs.Declarations.{narrow}
use Rattle.recording.specs.Writing.{digits, definition_text}
use Rattle.vcd_writer.specs.Lines.{lines_at, text_to, Room, Put}
use Rattle.vcd_writer.proofs.Putting.{put_length}

module _ (list : List ℕ) (k : ℕ) where
  text_more : text_to list (suc k) ≡ text_to list k ++ lines_at list k
  unfolding text_to gather
  text_more = sym (append_assoc (definition_text narrow) (gather k (lines_at list)) (lines_at list k))

  text_more_length : length (text_to list (suc k)) ≡ length (text_to list k) + length (lines_at list k)
  text_more_length = ap length text_more ∙ length-append (text_to list k) (lines_at list k)

text_none : (list : List ℕ) → text_to list 0 ≡ definition_text narrow
unfolding text_to gather
text_none list = append-nil (definition_text narrow)

-- ---- its length

module _ (list : List ℕ) where
  pub record MeasuredTo (k sum : ℕ) : Type 0 where
    pub size : sum ≡ length (text_to list k)
    pub most : sum ≤ 197 + 2 ^ 20 * k

  pub measured_none : MeasuredTo 0 197
  unfolding text_to gather definition_text joined digits
  measured_none = record { size = refl; most = omega arith }

  pub measured_one :
      {k sum r : ℕ} → MeasuredTo k sum → r ≡ length (lines_at list k) → r < 2 ^ 20 → MeasuredTo (k + 1) (sum + r)
  measured_one {k} {sum} {r} h e few =
      record {
        size = rw add-one (omega (arith, h.size, text_more_length list k));
        most = omega (arith, h.most);
      }

-- ---- from its end

module _ (list : List ℕ) (count : ℕ) (b₀ : List ℕ) where
  pub record WrittenFrom (b : List ℕ) (k end : ℕ) : Type 0 where
    pub within : k ≤ count
    pub place : end ≡ length (text_to list k)
    pub inside : end ≤ length b₀
    pub size : length b ≡ length b₀
    pub stored : sets b 0 (text_to list k) ≡ sets b₀ 0 (text_to list count)

  pub written_none : {end : ℕ} → end ≡ length (text_to list count) → end ≤ length b₀ → WrittenFrom b₀ count end
  written_none e h = record { within = omega arith; place = e; inside = h; size = refl; stored = refl }

  module _ (b : List ℕ) (k j end : ℕ) (h : WrittenFrom b k end) (more : suc j ≡ k) where
    whole : end ≡ length (text_to list j) + length (lines_at list j)
    whole = h.place ∙ ap (λ (n : ℕ). length (text_to list n)) (sym more) ∙ text_more_length list j

    pub written_room : Room (lines_at list j) end b
    written_room = record { long = omega (arith, whole); inside = omega (arith, h.inside, h.size) }

    pub written_one : {start : ℕ} {b₁ : List ℕ} → Put b end (lines_at list j) start b₁ → WrittenFrom b₁ j start
    written_one {start} {b₁} p =
        let front = text_to list j in
        let there : start ≡ length front = omega (arith, whole, p.place) in
        record {
          within = omega (arith, h.within);
          place = there;
          inside = omega (arith, p.place, h.inside);
          size = put_length p ∙ h.size;
          stored =
              ap (λ (l : List ℕ). sets l 0 front) p.stored ∙ sets_before b 0 start front (lines_at list j) (omega arith)
              ∙ ap (sets b 0) (sym (text_more list j)) ∙ ap (λ (n : ℕ). sets b 0 (text_to list n)) more ∙ h.stored;
        }

  module _ (b : List ℕ) (k end : ℕ) (h : WrittenFrom b k end) (first : k ≤ 0) where
    none : text_to list k ≡ definition_text narrow
    none = let e : k ≡ 0 = omega arith in ap (text_to list) e ∙ text_none list

    pub written_first : length (definition_text narrow) ≤ length b
    written_first = omega (arith, ap length none, h.place, h.inside, h.size)

    pub written_all : {b₁ : List ℕ} → b₁ ≡ sets b 0 (definition_text narrow) → b₁ ≡ sets b₀ 0 (text_to list count)
    written_all e = e ∙ ap (sets b 0) (sym none) ∙ h.stored

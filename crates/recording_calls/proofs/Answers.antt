-- A replay, a command at a time. Assumes nothing.
--   ReplayedTo                                    as many commands as are counted are run, and their answers written; those to come, run
--                                                 from the state reached, end as the whole text's do from the start
--   encoded                                       the bytes of the fresh state
--   replayed_none, replayed_more                  nothing is read; one more command is, whose answer has room (`replay_room`)
--   replay_end, replay_refused, replay_unfit      nothing is left, sizes out of range, no room: what the call answers and writes
--   no_state, no_answers                          whether the buffers fit
use Prim.Native.Nat.{ℕ, ◌+◌, ◌*◌, ◌<◌, ◌≤◌}
use mathlib.Core.Path.{◌≡◌, refl, sym, ap, subst, ◌∙◌}
use mathlib.Core.List.{List, [], ◌∷◌}
use mathlib.Core.Bool.{true, false, and-false, cond}
use native.Mathlib.Omega.{arith}
use lib.ListN.{length}
use lib.Seq.{sets}
use lib.Dec.{leb, eqb}
use borrow.Author.Tests.{leb-true, lt-leb, ne_eqb}
use Rattle.lists.specs.Rows.{joined}
use Rattle.lists.proofs.Bools.{and_r, Flag, on, off, flag}
use Rattle.model.specs.declared.Controller.{Controller}
use Rattle.model.specs.declared.Command.{Command}
use Rattle.model.specs.declared.Answer.{Answer}
use Rattle.model.specs.Records.{reset}
use Rattle.model.specs.WellFormed.{sizes_in_range}
use Rattle.model.specs.Commands.{execute, make, run}
use Rattle.layout.specs.Bytes.{state_size, state_bytes, state_from, is_state, answer_size, answer_bytes}
use Rattle.layout.specs.Statements.{Sized}
use Rattle.layout.proofs.Answers.{answers_from, answers_count, controller}
use Rattle.layout.proofs.Machines.{Taken, taken_none, taken_more, taken_all}
use Rattle.layout.proofs.RoundTrip.{state_read_back, state_encoded}
use Rattle.recording.specs.declared.Reader.{Reader}
use Rattle.recording.specs.declared.Report.{Report}
use Rattle.recording.specs.Stamps.{max_commands}
use Rattle.recording.specs.Reading.{is_good, Reading, reading}
use Rattle.recording.specs.Replay.{replayed}
use Rattle.recording.specs.Calls.{report_with, no_room, room, fits_replay, replay_call, DoesReplay}
use Rattle.recording_calls.specs.Remaining.{Remaining, remaining_with}
use Rattle.recording_calls.proofs.Parts.{all, whole_reading}
use Rattle.recording_calls.proofs.Reached.{Reached, reached_none, reached_more, more_room, reported}

-- ---- whether the buffers fit

module _ (t b answers : List ℕ) where
  pub answers_fit : fits_replay t b answers ≡ true → answer_size * room t ≤ length answers
  answers_fit e = leb-true _ _ (and_r (eqb (length b) state_size) (leb (answer_size * room t) (length answers)) e)

  pub replay_unfit :
      (n m : ℕ) (r : Report) → r ≡ no_room → fits_replay t b answers ≡ false → DoesReplay r b answers (replay_call n m t b answers)
  unfolding replay_call
  replay_unfit n m r er e = rw e (er, refl, refl)

  pub no_state : (length b ≡ state_size → ⊥) → fits_replay t b answers ≡ false
  no_state h = rw (ne_eqb _ _ h)

  pub no_answers : length answers < answer_size * room t → fits_replay t b answers ≡ false
  no_answers h = simp (lt-leb _ _ h, and-false)

-- ---- the fresh state

module _ (n m : ℕ) (a : Answer) (e : a ≡ make n m) where
  pub made : a.number ≡ 0 → (sizes_in_range n m ≡ true) × (a.state ≡ reset n m)
  unfolding make
  made h = go (flag (sizes_in_range n m))
    where
      go : Flag (sizes_in_range n m) → (sizes_in_range n m ≡ true) × (a.state ≡ reset n m)
      go (on p) = (p, ap (λ (x : Answer). x.state) e ∙ rw p)
      go (off p) = let k : a.number ≡ 2 = ap (λ (x : Answer). x.number) e ∙ rw p in absurd (omega arith)

  -- its bytes encode it
  pub encoded : {b : List ℕ} → a.number ≡ 0 → b ≡ state_bytes a.state → (is_state b ≡ true) × (state_from b ≡ reset n m)
  encoded {b} h eb =
      let sized : Sized (reset n m) = record { sources = refl; cores = refl } in
      let bytes : b ≡ state_bytes (reset n m) = eb ∙ ap state_bytes (made h).1 in
      (ap is_state bytes ∙ (state_encoded (reset n m) sized).0, ap state_from bytes ∙ state_read_back (reset n m) sized)

  -- sizes out of range are refused before any reading
  pub replay_refused :
      (t b answers : List ℕ) (r : Report) → (a.number ≡ 0 → ⊥) → r ≡ report_with a.number 0 0 → fits_replay t b answers ≡ true →
      DoesReplay r b answers (replay_call n m t b answers)
  unfolding make replay_call replayed joined
  replay_refused t b answers r h er ef = go (flag (sizes_in_range n m))
    where
      go : Flag (sizes_in_range n m) → DoesReplay r b answers (replay_call n m t b answers)
      go (on p) = let k : a.number ≡ 0 = ap (λ (x : Answer). x.number) e ∙ rw p in absurd (h k)
      go (off p) =
          let k : a.number ≡ 2 = ap (λ (x : Answer). x.number) e ∙ rw p in
          rw (ef, p) (er ∙ ap (λ (x : ℕ). report_with x 0 0) k, refl, refl)

-- ---- a command at a time

module _ (t answers₀ : List ℕ) (s₀ : Controller) where
  pub record ReplayedTo (answers : List ℕ) (s : Controller) (count : ℕ) (q : Remaining) : Type 0 where
    pub reached : Reached t count q
    pub taken : Taken controller answers₀ s₀ (all t).commands answers s (answer_size * count) q.commands

  pub replayed_none : ReplayedTo answers₀ s₀ 0 (all t)
  replayed_none = record { reached = reached_none t; taken = taken_none controller answers₀ s₀ (all t).commands }

module _
    {t answers₀ : List ℕ} {s₀ : Controller} {answers : List ℕ} {s : Controller} {count time : ℕ} {c : Command} {q q' : Remaining}
    (h : ReplayedTo t answers₀ s₀ answers s count q) (e : q ≡ remaining_with (c ∷ q'.commands) (time ∷ q'.times) q'.reader) where
  -- its answer has room behind those before it
  pub replay_room :
      (b : List ℕ) → fits_replay t b answers₀ ≡ true → (answer_size * count + answer_size ≤ length answers) × (count < max_commands)
  replay_room b fits =
      let room_left = more_room t h.reached e in
      (omega (arith, room_left, answers_fit t b answers₀ fits, h.taken.size), omega (arith, room_left))

  -- the command leads to s' and is answered by xs, which is written behind the answers so far
  pub replayed_more :
      {answers' xs : List ℕ} {s' : Controller} → s' ≡ (execute s c).state → answers' ≡ sets answers (answer_size * count) xs →
      xs ≡ answer_bytes (execute s c) → ReplayedTo t answers₀ s₀ answers' s' (count + 1) q'
  replayed_more es ea ex =
      record {
        reached = reached_more t h.reached e;
        taken = taken_more h.taken (omega arith) (ap (λ (x : Remaining). x.commands) e) es ea ex;
      }

-- ---- the end

module _ (n m : ℕ) (t b answers₀ : List ℕ) where
  abbrev commands : List Command
  commands = (reading t).commands

  same_commands : (all t).commands ≡ commands
  same_commands = ap (λ (x : Reading). x.commands) (sym (whole_reading t))

  pub replay_end :
      {answers b' : List ℕ} {s : Controller} {count : ℕ} {q : Remaining} {r : Reader} {report : Report} → fits_replay t b answers₀ ≡ true →
      sizes_in_range n m ≡ true → ReplayedTo t answers₀ (reset n m) answers s count q → q ≡ remaining_with [] [] r → b' ≡ state_bytes s →
      report ≡ report_with r.fault.number count (cond (is_good r) (length t) r.fault.offset) →
      DoesReplay report b' answers (replay_call n m t b answers₀)
  unfolding replay_call replayed
  replay_end {answers} {s = s} {count} {r = r} ef es h eq eb er =
      let end : ReplayedTo t answers₀ (reset n m) answers s count (remaining_with [] [] r) = subst (ReplayedTo t answers₀ (reset n m) answers s count) eq h in
      let ends : (s ≡ run (reset n m) commands) × (answers ≡ sets answers₀ 0 (answers_from (reset n m) commands))
      = rw (← same_commands) (taken_all end.taken refl) in
      let each = ap (λ (k : ℕ). report_with (reading t).number k (reading t).offset) (sym (answers_count (reset n m) commands)) in
      rw (ef, es) (er ∙ reported t end.reached ∙ each, eb ∙ ap state_bytes ends.0, ends.1)

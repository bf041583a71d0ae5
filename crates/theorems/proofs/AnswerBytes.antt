-- What is told by the answers' bytes, which stand in front of their buffer after a run. Assumes nothing.
--   entries_read     the entries read from the answers' bytes are those of the commands
--   kept_refused     commands that answer neither 0 nor 6 leave the state
--   cycles_told      the cycles read from the answers' bytes are at most 2m
use Prim.Native.Nat.{ℕ, zero, suc, ◌+◌, ◌*◌, ◌<◌, ◌≤◌}
use mathlib.Core.Path.{◌≡◌, refl, ◌∙◌, ap}
use mathlib.Core.Logic.{◌≢◌}
use mathlib.Core.List.{List, [], ◌∷◌, ◌++◌}
use native.Mathlib.Omega.{arith}
use native.Mathlib.Nat.{not-suc-le-zero, le_of_suc-le-suc}
use lib.ListN.{length, get_or}
use Rattle.model.specs.Behaviours.{run_by, answers_by}
use Rattle.model.specs.declared.Controller.{Controller}
use Rattle.model.specs.declared.Command.{Command}
use Rattle.model.specs.declared.Answer.{Answer}
use Rattle.model.specs.Commands.{effect, already_pending, refusal, settled, refused, execute, run}
use Rattle.model.specs.Ledger.{paired, entries}
use Rattle.layout.specs.Bytes.{word_at, answer_size, entries_in}
use Rattle.lists.specs.Rows.{joined}
use Rattle.layout.proofs.Records.{word_back}
use Rattle.model.specs.Settling.{settle}
use Rattle.settling.proofs.Keeps.{kept_m, settling_leaves_bare}
use Rattle.effects.proofs.Accepted.{by_answer}
use Rattle.effects.proofs.Dropped.{beside}
use Rattle.effects.proofs.Effects.{effect_m}
use Rattle.effects.proofs.Kept.{cycles_bounded}
use Rattle.theorems.proofs.Refusals.{refused_unchanged}
use Rattle.layout.proofs.Answers.{answers_from}

pub entries_read : (s : Controller) (cs : List Command) (rest : List ℕ) → entries_in cs (answers_from s cs ++ rest) ≡ entries s cs
unfolding entries_in answers_by paired joined
entries_read s [] rest = refl
entries_read s (c ∷ cs) rest = rw (word_back (execute s c).id.0, entries_read (execute s c).state cs rest)

-- a command that answers neither 0 nor 6 hands back the state
pub refused_state :
    (s : Controller) (c : Command) → (execute s c).number ≢ 0 → (execute s c).number ≢ already_pending → (execute s c).state ≡ s
refused_state s c h other = ap (λ (a : Answer). a.state) (refused_unchanged s c h other)

-- the i-th answer's number in front of the bytes b is neither
abbrev pub Unaltered : List ℕ → ℕ → Type 0
Unaltered b i = (get_or b (answer_size * i) 0 ≢ 0) × (get_or b (answer_size * i) 0 ≢ already_pending)

pub kept_refused :
    (s : Controller) (cs : List Command) (rest : List ℕ) →
    ((i : ℕ) → i < length cs → Unaltered (answers_from s cs ++ rest) i) → run s cs ≡ s
unfolding run_by answers_by joined
kept_refused s [] rest h = refl
kept_refused s (c ∷ cs) rest h =
    let next : (i : ℕ) → answer_size * suc i ≡ suc (suc (suc (suc (suc (answer_size * i))))) = λ i. omega arith in
    kept_refused (execute s c).state cs rest
    (λ i p.
    let (some, other) = h (suc i) (omega arith) in
    (λ q. some (rw (next i) q), λ q. other (rw (next i) q)))
    ∙ refused_state s c (h 0 (omega arith)).0 (h 0 (omega arith)).1

-- ---- cycles

execute_m : (s : Controller) (c : Command) → (execute s c).state.m ≡ s.m
unfolding settled refused
execute_m s c = by_answer s c (λ a. a.state.m ≡ s.m)
    (λ e. kept_m (effect s c) (settle (2 * (effect s c).m) (effect s c)) (settling_leaves_bare (2 * (effect s c).m) (effect s c)) ∙
    effect_m s c) (λ h. beside (λ t. t.m) s (λ l. refl) c (refusal s c))

pub cycles_told :
    (m : ℕ) (s : Controller) (cs : List Command) (rest : List ℕ) → s.m ≡ m → (i : ℕ) → i < length cs →
    word_at (answers_from s cs ++ rest) (answer_size * i + 3) ≤ 2 * m
unfolding answers_by joined
cycles_told m s [] rest e i h = absurd (not-suc-le-zero h)
cycles_told m s (c ∷ cs) rest e zero h = rw (word_back (execute s c).cycles) (omega (arith, e, cycles_bounded s c))
cycles_told m s (c ∷ cs) rest e (suc i) h =
    let next : answer_size * suc i + 3 ≡ suc (suc (suc (suc (suc (answer_size * i + 3))))) = omega arith in
    let behind : answer_size * suc i + 3 + 1 ≡ suc (suc (suc (suc (suc (answer_size * i + 3 + 1))))) = omega arith in
    rw (behind, next) (cycles_told m (execute s c).state cs rest (execute_m s c ∙ e) i (le_of_suc-le-suc h))

-- The worked texts of the times, of the replay and of the calls hold of the definitions, each list by one computation. Assumes nothing.
use mathlib.Core.Path.{◌≡◌, refl}
use Rattle.lists.specs.Rows.{joined}
use Rattle.model.specs.Behaviours.{answers_by}
use Rattle.model.proofs.Examples.{computed as run-computed}
use Rattle.layout.specs.Bytes.{state_bytes}
use Rattle.layout.specs.BytesCases.{times}
use Rattle.recording.specs.Reading.{times_from, times_of}
use Rattle.recording.specs.Replay.{replayed}
use Rattle.recording.specs.Calls.{read_call, replay_call}
use Rattle.recording.specs.Texts.{trigger4, definitions, declared}
use Rattle.recording.specs.CallTexts.{timed_wholes, timed_bodies, times_after, told, told_by, again, claiming, faulty, ReplayedCases}
use Rattle.recording.specs.CallTexts.{ReadCases, ReplayCases}
use Rattle.recording.proofs.Examples.{computed}

pub timed_wholes_say : told_by times_of timed_wholes ≡ told timed_wholes
unfolding computed times_from times_of definitions timed_wholes
timed_wholes_say = refl

pub timed_bodies_say : told_by (times_after declared) timed_bodies ≡ told timed_bodies
unfolding computed times_from times_after declared timed_bodies
timed_bodies_say = refl

pub replayed_cases : ReplayedCases
unfolding computed run-computed answers_by replayed trigger4 definitions again faulty
replayed_cases = (refl, refl, refl, refl, refl, refl, refl)

pub read_cases : ReadCases
unfolding computed times_from times_of joined read_call times trigger4 definitions claiming
read_cases = (refl, refl, refl, refl, refl)

pub replay_cases : ReplayCases
unfolding computed run-computed answers_by replayed joined state_bytes replay_call times trigger4 definitions again claiming faulty
replay_cases = (refl, refl, refl, refl, refl, refl, refl, refl)

-- The worked texts in chunks and the worked words hold of the definitions, each list by one computation. Assumes nothing.
use mathlib.Core.Path.{refl}
use Rattle.layout.specs.BytesCases.{times}
use Rattle.recording.specs.Chunks.{kept_with, kept_after, closing, take_byte, feed, feed_all, end_text, chunked}
use Rattle.recording.specs.Texts.{trigger4, definitions}
use Rattle.recording.specs.ChunkTexts.{unended, faulty_end, ChunkCases, KeptCases, LongCases}
use Rattle.recording.proofs.Examples.{computed}

pub chunk_cases : ChunkCases
unfolding computed kept_with kept_after closing take_byte feed feed_all end_text chunked trigger4 definitions unended faulty_end
chunk_cases = (refl, refl, refl, refl, refl, refl, refl, refl)

pub kept_cases : KeptCases
unfolding computed kept_with kept_after times
kept_cases = (refl, refl, refl, refl, refl, refl, refl, refl, refl)

pub long_cases : LongCases
unfolding computed kept_with kept_after closing take_byte feed
long_cases = (refl, refl)

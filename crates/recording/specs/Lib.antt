-- What a recording says: every definition of it that a reader must believe, in the order of document 01, "The bus monitor's text".
--   Words         bytes of a quoted text; words with their offsets
--   Values        decimal numbers, codes, bits, vectors and their extension
--   Records       the reader's records, and every literal of them
--   Declarations  the five variables, their names and widths
--   Stamps        the end of a stamp: the command that is taken, faults 13 and 19
--   Reading       what each word does at its place, the end of the text, and the whole reading
--   Chunks        a text in chunks, with what is carried between them
--   Carrying      what is carried between them, as bytes
--   Replay        the replay from a fresh controller
--   Writing       the text that is written of a run of commands
--   Calls         what the calls for hosts answer and write
--   Faults        when each fault is shown, number by number, and their order
--   Grammar       the grammar as derivations, beside the reading
--   Texts         worked texts, with what each of them says
--   CallTexts     worked texts of the times, of the replay and of the calls
--   ChunkTexts    worked texts in chunks
--   WrittenTexts  worked texts as they are written, and of the call that writes them
--   Statements    what is claimed of readings and replays, as propositions; their proofs are in the crates above this one
--   ChunkStatements      what is claimed of texts in chunks
--   WritingStatements    what is claimed of written texts
pub mod Words
pub mod Values
pub mod Records
pub mod Declarations
pub mod Stamps
pub mod Reading
pub mod Chunks
pub mod Carrying
pub mod Replay
pub mod Writing
pub mod Calls
pub mod Faults
pub mod Grammar
pub mod Texts
pub mod CallTexts
pub mod WrittenTexts
pub mod Statements
pub mod ChunkStatements
pub mod ChunkTexts
pub mod WritingStatements

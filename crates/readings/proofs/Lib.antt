-- What holds of every reading of a recording.
--   Lists, Codes    tests over lists; words, names and codes told apart
--   Cutting         how words and readings go over a text that is joined
--   Words           words are exactly the longest runs of bytes that are no separators
--   Extension       the value of an extended vector
--   Faults          which fault and which command a word shows
--   Final           what follows a fault changes nothing; where a fault is shown
--   Opening         which words open a stamp, and which leave it alone
--   Commanded       each variable holds a number that it has bits for, so cmd one from 0 to 7
--   Counted         at most 65,535 commands, and one for each strobe
--   Limits          no more commands than bytes
--   Rising          the times of the commands rise
--   LastTimes       the time of an open stamp is the last one read
--   Times           the times of the commands are those of their stamps, and nothing else is
--   WrongTimes      times of which that is false
--   Agreement       a reader's variables and the declarations of the grammar
--   Steps           words that show no fault of the grammar
--   Derived         a text read without a fault is derived
--   Following       one word that can stand at its place
--   Changed         along changes, blocks and times
--   Followed        a derived text shows neither 11 nor 12
--   Grammar         both
--   Spells          runs of digits that spell the same
--   Alike           long words that mean the same
--   Kept            a word of which at most 256 bytes are carried means the same as the whole word
--   Chunks          a text in chunks is one reading
--   Moved           words that stand further on are read alike, but for the offset of a fault
--   Fitting         a reader's numbers fit their bytes
--   Carrying        what is carried between chunks is read back from its bytes, and fits them again
pub mod Lists
pub mod Codes
pub mod Cutting
pub mod Words
pub mod Extension
pub mod Faults
pub mod Final
pub mod Opening
pub mod Commanded
pub mod Counted
pub mod Limits
pub mod Rising
pub mod LastTimes
pub mod Times
pub mod WrongTimes
pub mod Agreement
pub mod Steps
pub mod Derived
pub mod Following
pub mod Changed
pub mod Followed
pub mod Grammar
pub mod Spells
pub mod Alike
pub mod Kept
pub mod Chunks
pub mod Moved
pub mod Fitting
pub mod Carrying

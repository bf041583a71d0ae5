-- The theorems, in the order of the demands.
--   Refusals, Rows, Ids, Changes, Owners            demands 1 and 2
--   Requests .. DemandThree                         demand 3: the ledger as a picture of the state, counting, the theorem over every list
--   Following                                       a request's priority is its source's, over every list
--   LentClaim, AnswerBytes, LentBytes, RunStrict, CallsStrict    the same of what is lent, and of the hosts' calls
--   Replays, ReadBytes, ReplayStrict                             the same of the calls on recordings
--   FailsTwo, FailsThree, FailsRefusals, FailsFollowing, FailsDropped, Hollow, Limits    the statements are false of wrong controllers
pub mod Owners
pub mod Refusals
pub mod Rows
pub mod Changes
pub mod Ids
pub mod Requests
pub mod SourceMatching
pub mod CoreMatching
pub mod Matching
pub mod FilledBoxes
pub mod Placements
pub mod Fewest
pub mod MatchedStrict
pub mod DemandThree
pub mod Following
pub mod LentClaim
pub mod AnswerBytes
pub mod LentBytes
pub mod RunStrict
pub mod CallsStrict
pub mod FailsTwo
pub mod FailsThree
pub mod FailsRefusals
pub mod FailsFollowing
pub mod FailsDropped
pub mod Hollow
pub mod Limits
pub mod Replays
pub mod ReadBytes
pub mod ReplayStrict

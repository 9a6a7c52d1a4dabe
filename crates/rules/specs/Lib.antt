-- Document 01 from "Answers by number" to "Other events" as definitions, in its order, with requests (i) to (iii) and (vi) of document 02 in their places; its
-- sizes and tables stand in arrivals and tables, its log in bodies and log. Before has what the requests changed, as it was; Claims and Numbers have
-- the words in which the theorems speak of them, Cases, WakeOpCases and PriorityCases the cases that are computed.
pub mod Answers
pub mod Words
pub mod Commands
pub mod Signed
pub mod WakeOp
pub mod Calls
pub mod Events
pub mod Before
pub mod Numbers
pub mod History
pub mod Claims
pub mod Cases
pub mod WakeOpCases
pub mod PriorityCases

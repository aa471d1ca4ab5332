pub mod AlikeWalks
pub mod AlikeFaults
pub mod OneCall
pub mod WorkedCalls
pub mod CallLemmas
pub mod CommandLineLemmas

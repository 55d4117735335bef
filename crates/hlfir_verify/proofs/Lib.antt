pub mod Answered
pub mod Ended
pub mod Found
pub mod Judged
pub mod Rising
pub mod Sited

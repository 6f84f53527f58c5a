pub mod Step
pub mod Log
pub mod Legal
pub mod Run
pub mod Stream
pub mod Stop

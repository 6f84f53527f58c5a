pub mod PutLemmas
pub mod AccountLemmas
pub mod RoomLemmas
pub mod CopyLemmas

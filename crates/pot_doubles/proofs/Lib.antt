pub mod DiskLemmas
pub mod CallLemmas
pub mod LossLemmas
pub mod RoomLemmas

pub mod LengthLaws
pub mod SharesLaws
pub mod LentLaws
pub mod NearLaws
pub mod StartLaws
pub mod SoundLaws

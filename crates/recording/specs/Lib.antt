pub mod RecorderContents
pub mod Noting

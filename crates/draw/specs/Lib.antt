pub mod Drawn
pub mod RunDrawn
pub mod RunTrace
pub mod ScriptTrace

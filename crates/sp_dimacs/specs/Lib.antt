pub mod Formats
pub mod Graph
pub mod Sources
pub mod Pairs
pub mod Reading
pub mod LineReading
pub mod Giving
pub use Rattle.sp_text.specs.Lines
pub use Rattle.sp_text.specs.Numeral
pub use Rattle.sp_text.specs.Formats as LineForms
pub use Rattle.sp_text.specs.First
pub use Rattle.sp_text.specs.Text
pub use Rattle.sp_text.specs.Feeding
pub use Rattle.sp_text.specs.Collecting
pub use Rattle.sp_device.specs.Devices
pub use Rattle.sp_text.specs.Whole
pub use Rattle.sp_text.specs.Meaning
pub use Rattle.sp_text.specs.Accepted

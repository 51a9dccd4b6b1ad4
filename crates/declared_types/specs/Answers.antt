-- What a source is refused for.
pub use Rattle.constructors.specs.Answers.{double_name, or_else, unbuilt, unknown_name, with_some}

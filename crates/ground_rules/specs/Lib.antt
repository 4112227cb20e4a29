pub use Rattle.ground_names.specs.Numbers
pub use Rattle.ground_names.specs.Counted
pub use Rattle.ground_names.specs.Found
pub use Rattle.ground_names.specs.EventAtoms
pub mod Assignments
pub mod Declarations
pub mod Clauses
pub mod Atoms
pub mod Grounded
pub mod Stated
pub mod Limits
pub mod Answers
pub mod Listed
-- Evidence.
pub mod Examples
-- For private functions alone.
pub mod NumberedDeclarations
pub mod LentInstances
pub mod Origins
pub mod Tests

mod Members
mod Places
mod Renumbered
mod VariablePlaces
mod Mentioned
mod UnitsAt
mod GroundExpressions
mod NamedUnits
mod Fitting
mod Sorted
mod InOrder
mod PlainUnits
mod Named
mod Layering
pub mod KeptWords
mod UnitNumbers
mod OneList
pub mod RuleCounts
mod Firsts
mod Soundness
mod Occurring
mod VariableDomains
mod DeclaredSizes
mod ArgumentRanks
mod ExpressionMembers
mod StatedExpressions
mod CountedInstances
mod CountedClauses
mod Gathered
mod ByLayer
mod ByOrigin
mod FirstGiven
mod PlainMembers
mod UnitsBelow
mod Tested
pub mod NumberedNames
pub mod ListedInstances

-- Ranks that never rise fall along each way from a place that is not tied.
use Rattle.std.proofs.Common.{ℕ, ◌<◌, ◌≤◌, List, [], ◌∷◌, arith}
use Rattle.strata_check.specs.Rows.{row_at, IsWay}
use Rattle.strata_check.specs.Ranks.{rank_at, AreUnder, NeverRise, NoCircleBefore}

module _ (rows : List (List ℕ)) (ranks : List ℕ) (never : NeverRise rows ranks) where
  falls : (place : ℕ) (between : List ℕ) (last : ℕ) → IsWay rows place between last
      → rank_at ranks last ≤ rank_at ranks place
  falls place [] last way = let one = never place way.0 last way.1 in omega arith
  falls place (next ∷ more) last way =
      let one = never place way.0.0 next way.0.1 in
      let rest = falls next more last way.1 in
      omega arith

  untied : (place : ℕ) (between : List ℕ) (last : ℕ) → AreUnder ranks (row_at rows place)
      (rank_at ranks place) → IsWay rows place between last → rank_at ranks last < rank_at ranks
      place
  untied place [] last under way = under way.0 last way.1
  untied place (next ∷ more) last under way =
      let one = under way.0.0 next way.0.1 in
      let rest = falls next more last way.1 in
      omega arith

  pub no_circle : (place : ℕ) → ((earlier : ℕ) → earlier < place
      → AreUnder ranks (row_at rows earlier) (rank_at ranks earlier)) → NoCircleBefore rows place
  no_circle place under = λ earlier before leads. (let less = untied earlier leads.0 earlier
      (under earlier before) leads.1 in omega arith)

-- For private functions alone: what an expression comes to while it is computed.
use Rattle.std.specs.Prelude.{List}
use Rattle.span_algebra.specs.declared.spans.Span.{Span}
use Rattle.static_fluent.specs.declared.rows.Member.{Member}
use Rattle.static_fluent.specs.declared.rows.Member.TheVariants.{Lent, Made}

-- the spans of a row that is lent, or of a list that was made
abbrev pub spans_in : Member → List Span
spans_in (Lent spans) = spans.now
spans_in (Made spans) = spans

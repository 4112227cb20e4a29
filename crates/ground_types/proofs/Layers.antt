-- Layer after layer makes each unit what the definitions say, and a program in layers leaves no
-- other choice.
use Rattle.std.proofs.Common.{◌≡◌, ◌⊎◌, inl, inr, ℕ, ◌<◌, ◌≤◌, nat_lt, Bool, true, false, cond, not}
use Rattle.std.proofs.Common.{◌&&◌, List, [], ◌∷◌, ◌++◌, flat_map, fold, length, Option, refl, sym}
use Rattle.std.proofs.Common.{◌∙◌, ap, subst, arith, append_assoc, append-nil}
use Rattle.std.specs.List.{list_all}
use Rattle.std.proofs.lemmas.Option.{slice_get_past}
use Rattle.ground_types.specs.Truth.{Table}
use Rattle.ground_types.specs.Members.{contains}
use Rattle.ground_types.specs.Recognition.{kind_or_idle, kind_of, derived_of_unit, value_of_unit}
use Rattle.ground_types.specs.Recognition.{static_of_unit, with_layer, inputs_only, all_layers}
use Rattle.ground_types.specs.Meaning.{units_of_kind, is_layer, are_layers, IsLayered, IsMeaning}
use Rattle.ground_types.specs.Meaning.{SaysTheSame}
use Rattle.ground_types.specs.declared.program.UnitKind.{UnitKind}
use Rattle.ground_types.specs.declared.program.UnitKind.TheVariants as kind
use Rattle.ground_types.specs.declared.program.Program.{Program}
use Rattle.ground_types.proofs.Members.{and_left, and_right, contains_left, contains_either}
use Rattle.ground_types.proofs.Members.{contains_neither, first_or_rest, each_of_all}
use Rattle.ground_types.proofs.Congruence.{SameUnit, AgreeOn, agree_on_fewer, IsDefined}
use Rattle.ground_types.proofs.Congruence.{defined_alike, same_by_definition}

none_among : (unit : ℕ) → contains [] unit ≡ true → ⊥
none_among unit is = cc

-- what is known of a unit of a layer: it stands in no layer before, and names units of those only
record IsOfLayer (program : Program) (below : List ℕ) (unit : ℕ) : Type 0 where
  pub new : contains below unit ≡ false
  pub named : (other : ℕ) → contains (units_of_kind (kind_of program unit)) other ≡ true
      → contains below other ≡ true

layer_parts : (a b c d e : Bool) → (a && not b && c && d && e) ≡ true → (b ≡ false) × (d ≡ true)
    × (e ≡ true)
layer_parts true false true d e is = (refl, and_left d e is, and_right d e is)
layer_parts true false false d e is = cc
layer_parts true true c d e is = cc
layer_parts false b c d e is = cc

of_layer_by : (program : Program) (below : List ℕ) (first : ℕ) (rest : List ℕ) (unit : ℕ)
    → is_layer program below (first ∷ rest) ≡ true →
    (first ≡ unit) ⊎ (contains rest unit ≡ true) → (is_layer program below rest ≡ true
    → contains rest unit ≡ true → IsOfLayer program below unit) →
    IsOfLayer program below unit
of_layer_by program below first rest unit is at later =
    let parts = layer_parts (nat_lt first (length program.units)) (contains below first)
    (not (contains rest first))
    (list_all (contains below) (units_of_kind (kind_of program first)))
    (is_layer program below rest) is in
    let here : IsOfLayer program below first = record {
      new = parts.0;
      named = λ other among. each_of_all (contains below) (units_of_kind (kind_of program first))
          other parts.1 among;
    } in
    elim at [
      | inl same ↦ subst (IsOfLayer program below) same here
      | inr there ↦ later parts.2 there
    ]

of_layer : (program : Program) (below layer : List ℕ) (unit : ℕ) → is_layer program below layer
    ≡ true → contains layer unit ≡ true → IsOfLayer program below unit
of_layer program below [] unit is among = cc
of_layer program below (first ∷ rest) unit is among =
    of_layer_by program below first rest unit is (first_or_rest first rest unit among)
    (of_layer program below rest unit)

-- a number that is no unit is an event that never occurs
past_kind : (program : Program) (unit : ℕ) → length program.units ≤ unit → kind_of program unit
    ≡ kind.Derived []
past_kind program unit past = ap kind_or_idle (slice_get_past program.units unit past)

past_by : (units unit : ℕ) → (unit < units → ⊥) → units ≤ unit
past_by units unit out = grind arith

-- a number that stands in no layer is no unit
past_units : (program : Program) (unit : ℕ) → IsLayered program
    → contains (flat_map (λ layer. layer) program.layers) unit ≡ false
    → length program.units ≤ unit
past_units program unit layered out =
    past_by (length program.units) unit (λ within. let both : true ≡ false =
    sym (layered.all unit within) ∙ out in cc)

-- what holds of no unit and stays with each layer holds of the units of all layers
over_layers : (program : Program) (step : Table → List ℕ → Table) (P : List ℕ → Table → Type 0) →
    ((below layer : List ℕ) (table : Table) → is_layer program below layer ≡ true → P below table
    → P (below ++ layer) (step table layer)) →
    (below : List ℕ) (table : Table) (layers : List (List ℕ)) → are_layers program below layers
    ≡ true → P below table →
    P (below ++ flat_map (λ layer. layer) layers) (fold step table layers)
over_layers program step P stays below table [] is holds =
    subst (λ (units : List ℕ). P units table) (sym (append-nil below)) holds
over_layers program step P stays below table (layer ∷ rest) is holds =
    let first : is_layer program below layer ≡ true = and_left (is_layer program below layer)
    (are_layers program (below ++ layer) rest) is in
    let later : are_layers program (below ++ layer) rest ≡ true =
    and_right (is_layer program below layer) (are_layers program (below ++ layer) rest) is in
    let all : P ((below ++ layer) ++ flat_map (λ layer. layer) rest) (fold step (step table layer)
    rest) =
    over_layers program step P stays (below ++ layer) (step table layer) rest later
    (stays below layer table first holds) in
    subst (λ (units : List ℕ). P units (fold step (step table layer) rest))
    (append_assoc below layer (flat_map (λ layer. layer) rest)) all

-- in a table that is as the definitions say each unit is defined over the table itself
defined_by_meaning : (program : Program) (opening : ℕ → Option ℕ) (occurs : ℕ → ℕ → Bool) (w : ℕ)
    (table : Table) (unit : ℕ) →
    IsMeaning program opening occurs w table → IsDefined program opening w table table unit
defined_by_meaning program opening occurs w table unit is =
    record {
      events = is.derived_events unit;
      simple = is.simple_fluents unit;
      statics =
          is.static_fluents unit;
    }

module _ (program : Program) (opening : ℕ → Option ℕ) (occurs : ℕ → ℕ → Bool) (w : ℕ)
    (one two : Table)
    (left : IsMeaning program opening occurs w one) (right : IsMeaning program opening occurs w
    two) where
  -- two meanings that agree on the units that a unit names say the same of it
  same_of_named : (unit : ℕ) → AgreeOn one two (units_of_kind (kind_of program unit))
      → SameUnit one two unit
  same_of_named unit agree = same_by_definition program opening w two one two unit
      (defined_alike program opening w one two one unit agree (defined_by_meaning program opening
      occurs w one unit left))
      (defined_by_meaning program opening occurs w two unit right)

  agree_at : (below layer : List ℕ) → is_layer program below layer ≡ true → AgreeOn one two below
      → (unit : ℕ) →
      (contains below unit ≡ true) ⊎ (contains layer unit ≡ true) → SameUnit one two unit
  agree_at below layer is agree unit (inl before) = agree.each unit before
  agree_at below layer is agree unit (inr now) = same_of_named unit
      (agree_on_fewer one two (units_of_kind (kind_of program unit)) below
      (of_layer program below layer unit is now).named agree)

  agree_more : (below layer : List ℕ) → is_layer program below layer ≡ true → AgreeOn one two below
      → AgreeOn one two (below ++ layer)
  agree_more below layer is agree =
      record {
        inputs = agree.inputs;
        each = λ unit among. agree_at below layer is agree unit
            (contains_either below layer unit among);
      }

  agree_on_none : AgreeOn one two []
  agree_on_none = record {
    inputs = λ event t. left.input_events event t
        ∙ sym (right.input_events event t);
    each = λ unit among. absurd (none_among unit among);
  }

  agree_on_all : IsLayered program → AgreeOn one two (flat_map (λ layer. layer) program.layers)
  agree_on_all layered = over_layers program (λ table layer. table) (λ below table.
      AgreeOn one two below)
      (λ below layer table. agree_more below layer) [] one program.layers layered.order
      agree_on_none

  same_by : IsLayered program → (unit : ℕ) (b : Bool)
      → contains (flat_map (λ layer. layer) program.layers) unit ≡ b → SameUnit one two unit
  same_by layered unit true among = (agree_on_all layered).each unit among
  same_by layered unit false out = same_of_named unit
      (subst (λ (k : UnitKind). AgreeOn one two (units_of_kind k))
      (sym (past_kind program unit (past_units program unit layered out))) agree_on_none)

  same_unit : IsLayered program → (unit : ℕ) → SameUnit one two unit
  same_unit layered unit = same_by layered unit
      (contains (flat_map (λ layer. layer) program.layers) unit) refl

-- a program in layers has one meaning at most
pub meaning_unique : (program : Program) (opening : ℕ → Option ℕ) (occurs : ℕ → ℕ → Bool) (w : ℕ)
    (one two : Table) → IsLayered program →
    IsMeaning program opening occurs w one → IsMeaning program opening occurs w two
    → SaysTheSame one two
meaning_unique program opening occurs w one two layered left right = record {
  input_events = λ event t. left.input_events event t ∙ sym (right.input_events event t);
  derived_events = λ unit. (same_unit program opening occurs w one two left right layered
      unit).events;
  simple_fluents = λ unit. (same_unit program opening occurs w one two left right layered
      unit).simple;
  static_fluents = λ unit. (same_unit program opening occurs w one two left right layered
      unit).statics;
}

-- a table after some layers: the units so far are defined over it and name one another only, and of
-- the others it says nothing
record IsSettled (program : Program) (opening : ℕ → Option ℕ) (occurs : ℕ → ℕ → Bool) (w : ℕ)
    (below : List ℕ) (table : Table) : Type 0 where
  pub inputs : (event t : ℕ) → table.occurs event t ≡ occurs event t
  pub named : (unit other : ℕ) → contains below unit ≡ true
      → contains (units_of_kind (kind_of program unit)) other ≡ true → contains below other ≡ true
  pub defined : (unit : ℕ) → contains below unit ≡ true → IsDefined program opening w table table
      unit
  pub untold : (unit : ℕ) → contains below unit ≡ false → SameUnit table (inputs_only occurs) unit

same_back : (one two : Table) (unit : ℕ) → SameUnit one two unit → SameUnit two one unit
same_back one two unit same =
    record {
      events = λ t. sym (same.events t);
      simple = λ t. sym (same.simple t);
      statics =
          λ v t. sym (same.statics v t);
    }

same_through : (one two three : Table) (unit : ℕ) → SameUnit one two unit → SameUnit two three unit
    → SameUnit one three unit
same_through one two three unit left right = record {
  events = λ t. left.events t ∙ right.events t;
  simple = λ t. left.simple t ∙ right.simple t;
  statics = λ v t. left.statics v t ∙ right.statics v t;
}

same_defined : (program : Program) (opening : ℕ → Option ℕ) (w : ℕ) (over one two : Table)
    (unit : ℕ) → SameUnit two one unit →
    IsDefined program opening w over one unit → IsDefined program opening w over two unit
same_defined program opening w over one two unit same is = record {
  events = λ t. same.events t ∙ is.events t;
  simple = λ t. same.simple t ∙ is.simple t;
  statics = λ v t. same.statics v t ∙ is.statics v t;
}

module _ (program : Program) (opening : ℕ → Option ℕ) (occurs : ℕ → ℕ → Bool) (w : ℕ) where
  -- one more layer changes no unit outside it
  outside_layer : (table : Table) (layer : List ℕ) (unit : ℕ) → contains layer unit ≡ false
      → SameUnit (with_layer program opening w table layer) table unit
  outside_layer table layer unit out = record {
    events = λ t. ap (λ (b : Bool). cond b (derived_of_unit table (kind_of program unit) t)
        (table.derived unit t)) out;
    simple = λ t. ap (λ (b : Bool). cond b (value_of_unit table (opening unit)
        (kind_of program unit) w t) (table.value unit t)) out;
    statics = λ v t. ap (λ (b : Bool). cond b (static_of_unit table (kind_of program unit) v t)
        (table.static unit v t)) out;
  }

  -- it makes each of its own what the definitions say over the layers before
  inside_layer : (table : Table) (layer : List ℕ) (unit : ℕ) → contains layer unit ≡ true
      → IsDefined program opening w table (with_layer program opening w table layer) unit
  inside_layer table layer unit among = record {
    events = λ t. ap (λ (b : Bool). cond b (derived_of_unit table (kind_of program unit) t)
        (table.derived unit t)) among;
    simple = λ t. ap (λ (b : Bool). cond b (value_of_unit table (opening unit)
        (kind_of program unit) w t) (table.value unit t)) among;
    statics = λ v t. ap (λ (b : Bool). cond b (static_of_unit table (kind_of program unit) v t)
        (table.static unit v t)) among;
  }

  outside_by : (below layer : List ℕ) → is_layer program below layer ≡ true → (unit : ℕ)
      → contains below unit ≡ true → (b : Bool) → contains layer unit ≡ b → b ≡ false
  outside_by below layer is unit before true among = let both : false ≡ true =
      sym (of_layer program below layer unit is among).new ∙ before in cc
  outside_by below layer is unit before false out = refl

  -- so it changes no unit of a layer before
  layers_before_stay : (below layer : List ℕ) (table : Table) → is_layer program below layer ≡ true
      → AgreeOn table (with_layer program opening w table layer) below
  layers_before_stay below layer table is = record {
    inputs = λ event t. refl;
    each = λ unit before. same_back (with_layer program opening w table layer) table unit
        (outside_layer table layer unit (outside_by below layer is unit before
        (contains layer unit) refl));
  }

  -- what is known of a unit of this layer or one before: its named units, and its definition over
  -- the table before
  record IsKept (below : List ℕ) (table after : Table) (unit : ℕ) : Type 0 where
    pub named : (other : ℕ) → contains (units_of_kind (kind_of program unit)) other ≡ true
        → contains below other ≡ true
    pub defined : IsDefined program opening w table after unit

  kept : (below layer : List ℕ) (table : Table) → is_layer program below layer ≡ true
      → IsSettled program opening occurs w below table → (unit : ℕ) →
      (contains below unit ≡ true) ⊎ (contains layer unit ≡ true)
      → IsKept below table (with_layer program opening w table layer) unit
  kept below layer table is settled unit (inl before) = record {
    named = λ other. settled.named unit other before;
    defined = same_defined program opening w table table (with_layer program opening w table layer)
        unit
        (outside_layer table layer unit (outside_by below layer is unit before
        (contains layer unit) refl)) (settled.defined unit before);
  }
  kept below layer table is settled unit (inr now) =
      record {
        named = (of_layer program below layer unit is now).named;
        defined =
            inside_layer table layer unit now;
      }

  settled_more : (below layer : List ℕ) (table : Table) → is_layer program below layer ≡ true
      → IsSettled program opening occurs w below table →
      IsSettled program opening occurs w (below ++ layer) (with_layer program opening w table layer)
  settled_more below layer table is settled =
      let after : Table = with_layer program opening w table layer in
      let all : (unit : ℕ) → contains (below ++ layer) unit ≡ true → IsKept below table after unit =
      λ unit among. kept below layer table is settled unit (contains_either below layer unit among)
      in
      record {
        inputs = settled.inputs;
        named = λ unit other among by. contains_left below layer other
            ((all unit among).named other by);
        defined = λ unit among. defined_alike program opening w table after after unit
            (agree_on_fewer table after (units_of_kind (kind_of program unit)) below
            (all unit among).named (layers_before_stay below layer table is))
            (all unit among).defined;
        untold = λ unit out.
            let parts = contains_neither below layer unit out in
            same_through after table (inputs_only occurs) unit (outside_layer table layer unit
            parts.1) (settled.untold unit parts.0);
      }

  settled_at_first : IsSettled program opening occurs w [] (inputs_only occurs)
  settled_at_first = record {
    inputs = λ event t. refl;
    named = λ unit other among. absurd (none_among unit among);
    defined = λ unit among. absurd (none_among unit among);
    untold = λ unit out. record { events = λ t. refl; simple = λ t. refl; statics = λ v t. refl };
  }

  settled_at_last : IsLayered program → IsSettled program opening occurs w
      (flat_map (λ layer. layer) program.layers) (all_layers program opening occurs w)
  settled_at_last layered = over_layers program (with_layer program opening w)
      (IsSettled program opening occurs w) settled_more
      [] (inputs_only occurs) program.layers layered.order settled_at_first

  -- an event that never occurs is defined in any table that says nothing of it
  past_defined : (table : Table) (unit : ℕ) → kind_of program unit ≡ kind.Derived []
      → SameUnit table (inputs_only occurs) unit → IsDefined program opening w table table unit
  past_defined table unit past same = record {
    events = λ t. same.events t ∙ sym (ap (λ (k : UnitKind). derived_of_unit table k t) past);
    simple = λ t. same.simple t ∙ sym (ap (λ (k : UnitKind). value_of_unit table (opening unit) k w
        t) past);
    statics = λ v t. same.statics v t ∙ sym (ap (λ (k : UnitKind). static_of_unit table k v t)
        past);
  }

  defined_by : IsLayered program → (unit : ℕ) (b : Bool)
      → contains (flat_map (λ layer. layer) program.layers) unit ≡ b →
      IsDefined program opening w (all_layers program opening occurs w) (all_layers program opening
      occurs w) unit
  defined_by layered unit true among = (settled_at_last layered).defined unit among
  defined_by layered unit false out =
      past_defined (all_layers program opening occurs w) unit
      (past_kind program unit (past_units program unit layered out))
      ((settled_at_last layered).untold unit out)

  all_defined : IsLayered program → (unit : ℕ)
      → IsDefined program opening w (all_layers program opening occurs w)
      (all_layers program opening occurs w) unit
  all_defined layered unit = defined_by layered unit
      (contains (flat_map (λ layer. layer) program.layers) unit) refl

-- layer after layer gives a meaning of a program in layers
pub layers_are_meaning : (program : Program) (opening : ℕ → Option ℕ) (occurs : ℕ → ℕ → Bool)
    (w : ℕ) → IsLayered program →
    IsMeaning program opening occurs w (all_layers program opening occurs w)
layers_are_meaning program opening occurs w layered = record {
  input_events = (settled_at_last program opening occurs w layered).inputs;
  derived_events = λ unit. (all_defined program opening occurs w layered unit).events;
  simple_fluents = λ unit. (all_defined program opening occurs w layered unit).simple;
  static_fluents = λ unit. (all_defined program opening occurs w layered unit).statics;
}

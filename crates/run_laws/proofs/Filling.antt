-- What an item of READ fills: the same elements of the same array as its source does.
use Rattle.std.proofs.Common.{◌≡◌, refl, sym, ap, ◌∙◌, subst, ℕ, ◌<◌, List, [], ◌∷◌, All, Some, Ok, Err, IfOk, ℤ}
use Rattle.std.proofs.lemmas.List.Elements.{All-nil, All-cons}
use Rattle.ws_base.specs.Outcomes.{Staged, ◌>>=◌}
use Rattle.ws_space.specs.declared.state.ArrayValue.{ArrayValue}
use Rattle.ws_space.specs.declared.state.VarState.{VarState}
use Rattle.ws_space.specs.Shapes.{Extents, dims, extents_of, size, all_places}
use Rattle.ws_space.specs.Replace.{filled}
use Rattle.array_meaning.specs.declared.term.Term.{Term}
use Rattle.array_meaning.specs.Stage1.{whole_array}
use Rattle.array_meaning.specs.Stage2 as later
use Rattle.array_meaning.specs.Assign as assigned
use Rattle.array_meaning.specs.Program as source
use Rattle.array_meaning.specs.Program.{selection_extents}
use Rattle.hlfir_meaning.specs.Environments.{Selection}
use Rattle.hlfir_meaning.specs.Selections.{array_operand, extents}
use Rattle.hlfir_meaning.specs.Stage2.{targets}
use Rattle.hlfir_meaning.specs.Assign.{Target, all_of, selected, movable}
use Rattle.hlfir_meaning.specs.Statements.{target_extents, read_into}
use Rattle.value_laws.specs.Standing.{AreIn}
use Rattle.value_laws.proofs.Names.{whole_operands}
use Rattle.value_laws.proofs.Wholes.{whole-targets, same_operand}
use Rattle.world_laws.specs.Yields.{TargetStands}
use Rattle.where_laws.proofs.Wholes.{whole-array}
use Rattle.where_laws.proofs.Places.{all_within}

-- ---- the shape of a term that is one array operand, or none

selection_shape : (t : Term) (e : Extents) → later.operands t ≡ later.array_operand e → selection_extents (assigned.selection t) ≡ e
selection_shape t [] h = rw h refl
selection_shape t (n ∷ ns) h = rw h refl

-- ---- places

all_in : (e : Extents) → AreIn (all_places e) (array_operand e)
all_in [] = All-nil (λ f. All (λ p. p < size f) (all_places []))
all_in (n ∷ ns) = All-cons (λ f. All (λ p. p < size f) (all_places (n ∷ ns))) (n ∷ ns) [] (all_within (n ∷ ns)) (All-nil (λ f. All (λ p. p < size f) (all_places (n ∷ ns))))

-- ---- what is filled

-- the source fills its array at these places
source_fills : (t : Term) (a : ArrayValue) (xs : List ℤ) → later.array_of t ≡ Some a →
    source.read_into (assigned.selection t) xs ≡ (later.targets t (all_places (selection_extents (assigned.selection t))) >>= (λ ts. let r : Staged VarState = Ok (filled a ts xs) in r))
source_fills t a xs h = rw h refl

pub record FillsAlike (t : Target) (q : assigned.Target) : Type 0 where
  pub extents : target_extents t ≡ selection_extents q
  pub read : (xs : List ℤ) → read_into t xs ≡ source.read_into q xs

whole_alike : (a : ArrayValue) → FillsAlike (all_of a) (assigned.selection (whole_array a))
whole_alike a = record {
  extents = sym shape;
  read = λ xs. sym (source_fills (whole_array a) a xs (whole-array a) ∙ (ap (λ e. later.targets (whole_array a) (all_places e) >>= (λ ts. let r : Staged VarState = Ok (filled a ts xs) in r)) shape
      ∙ ap (λ r. r >>= (λ ts. let s : Staged VarState = Ok (filled a ts xs) in s)) (whole-targets a (all_places (extents_of (dims a.shape))) (all_within (extents_of (dims a.shape))))));
} where
  shape : selection_extents (assigned.selection (whole_array a)) ≡ extents_of (dims a.shape)
  shape = selection_shape (whole_array a) (extents_of (dims a.shape)) (whole_operands a)

part_alike : (a : ArrayValue) (s : Selection) (t : Term) → later.array_of t ≡ Some a → array_operand (extents s) ≡ later.operands t → ((at : List ℕ) → AreIn at (later.operands t) → targets a s at ≡ later.targets t at) → FillsAlike (selected a s) (assigned.selection t)
part_alike a s t array shapes same = record {
  extents = sym shape;
  read = λ xs.
      ap (λ r. r >>= (λ ts. let q : Staged VarState = Ok (filled a ts xs) in q)) (same (all_places (extents s)) (subst (AreIn (all_places (extents s))) shapes (all_in (extents s))))
      ∙ (ap (λ e. later.targets t (all_places e) >>= (λ ts. let r : Staged VarState = Ok (filled a ts xs) in r)) (sym shape) ∙ sym (source_fills t a xs array));
} where
  shape : selection_extents (assigned.selection t) ≡ extents s
  shape = selection_shape t (extents s) (sym shapes ∙ same_operand (extents s))

pub fills_alike : (t : Target) (q : assigned.Target) → TargetStands t q → FillsAlike t q
fills_alike (movable s) (assigned.movable r) h = record { extents = refl; read = λ xs. ap Ok h }
fills_alike (movable s) (assigned.selection u) h = absurd h
fills_alike (all_of a) (assigned.selection u) h = subst (λ v. FillsAlike (all_of a) (assigned.selection v)) (sym h) (whole_alike a)
fills_alike (all_of a) (assigned.movable r) h = absurd h
fills_alike (selected a s) (assigned.selection u) h = part_alike a s u h.0 h.1 h.2
fills_alike (selected a s) (assigned.movable r) h = absurd h

-- what is read into a selection of what the variable holds
pub filled_of : (t : Term) (a : ArrayValue) (xs : List ℤ) (P : VarState → Type 0) → later.array_of t ≡ Some a → ((ts : List ℕ) → P (filled a ts xs)) → IfOk (source.read_into (assigned.selection t) xs) P
filled_of t a xs P h k = subst (λ r. IfOk r P) (sym (source_fills t a xs h)) (at (later.targets t (all_places (selection_extents (assigned.selection t))))) where
  at : (r : Staged (List ℕ)) → IfOk (r >>= (λ ts. let s : Staged VarState = Ok (filled a ts xs) in s)) P
  at (Ok ts) = k ts
  at (Err e) = tt

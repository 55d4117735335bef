-- Values that a designator takes as its subscripts: scalars and vectors.
use Rattle.std.proofs.Common.{◌≡◌, refl, sym, ap, ◌∙◌, subst, ℕ, ◌*◌, ◌<◌, ◌≤◌, ◌==◌, true, false, if◌then◌else◌, List, [], ◌∷◌, map, All, Ok, Err, ℤ, arith}
use Rattle.std.proofs.lemmas.List.Elements.{All-nil, All-cons, All-head}
use Rattle.ws_base.specs.Outcomes.{Staged, ◌>>=◌}
use Rattle.ws_space.specs.declared.shape.Dim.{Dim}
use Rattle.ws_space.specs.Shapes.{Extents, size}
use Rattle.ws_space.specs.Values.{value_at}
use Rattle.ws_space.specs.Sections.{elements_at}
use Rattle.array_meaning.specs.declared.term.Term.{Term}
use Rattle.array_meaning.specs.declared.term.Term.TheVariants as term
use Rattle.array_meaning.specs.declared.term.Pick.{Pick}
use Rattle.array_meaning.specs.declared.term.Pick.TheVariants as pick
use Rattle.array_meaning.specs.Stage1 as source
use Rattle.array_meaning.specs.Stage2 as later
use Rattle.hlfir_ops.specs.RulesValues.{rank_of}
use Rattle.hlfir_meaning.specs.Environments.{Selection, Value, variable, array, part, column, Environment, with_value, scalar_in}
use Rattle.hlfir_meaning.specs.Places.{column_at}
use Rattle.hlfir_meaning.specs.References.{held_extents, held_values}
use Rattle.hlfir_meaning.specs.Selections.{array_operand, first_extent, extents, columns}
use Rattle.hlfir_meaning.specs.Stage1.{with_vector}
use Rattle.hlfir_meaning.specs.Stage2.{operands, deferred_by, stage2}
use Rattle.lower_values.specs.declared.operand.Operand.{Operand}
use Rattle.lower_values.specs.declared.operand.Subscript.{Subscript}
use Rattle.lower_values.specs.declared.operand.Subscript.TheVariants.{One, Vector}
use Rattle.lower_values.specs.References.{subscript_of}
use Rattle.value_laws.specs.Standing.{Kept, AreIn, Stands}
use Rattle.value_laws.proofs.Elementals.{own-small}
use Rattle.value_laws.proofs.Evaluated.{values-same}
use Rattle.value_laws.proofs.Walking.{with_value-here}
use Rattle.part_laws.specs.Selects.{IsVector, Selects, selected_by}
use Rattle.part_laws.specs.Parts.{IsHeld, IsOfRankOne, HasOneDimension, StandsTaken}

-- ---- shapes of one dimension

one_extent : (e : Extents) → later.vector_extent (array_operand e) ≡ first_extent e
one_extent [] = refl
one_extent (n ∷ ns) = refl

below_one : (n : ℕ) (at : List ℕ) → All (λ p. p < n) at → All (λ p. p < n * 1) at
below_one n at h = subst (λ m. All (λ p. p < m) at) (omega arith) h

in_one : (e : Extents) → All IsOfRankOne (array_operand e) → (at : List ℕ) → All (λ p. p < first_extent e) at → AreIn at (array_operand e)
in_one [] h at is = All-nil (λ f. All (λ p. p < size f) at)
in_one (n ∷ []) h at is = All-cons (λ f. All (λ p. p < size f) at) (n ∷ []) [] (below_one n at is) (All-nil (λ f. All (λ p. p < size f) at))
in_one (n ∷ m ∷ ms) h at is = absurd (All-head IsOfRankOne (n ∷ m ∷ ms) [] h)

-- ---- values

-- what a held value gives at places is what is found there
abbrev found_at : List ℕ → Environment → ℕ → Value → Staged (List ℤ)
found_at at env n x = stage2 at env (deferred_by n x) >>= (λ after. Ok (column_at at (after n)))

elements_found : (at : List ℕ) (env : Environment) (n : ℕ) (r : Staged (List ℤ)) →
    ((r >>= (λ xs. let after : Staged Environment = Ok (with_value n (column xs) env) in after)) >>= (λ after. let ys : Staged (List ℤ) = Ok (column_at at (after n)) in ys)) ≡ r
elements_found at env n (Ok xs) = ap (λ x. let ys : Staged (List ℤ) = Ok (column_at at x) in ys) (with_value-here n (column xs) env)
elements_found at env n (Err t) = refl

module _ (base low high : ℕ) (env : Environment) (x : Operand) (t : Term) (h : Stands base low high env x t) (one : HasOneDimension t) where
  abbrev number : ℕ
  number = x.value.number

  found-values : (val : Value) → env number ≡ val → (at : List ℕ) → AreIn at (later.operands t) → found_at at env number val ≡ later.values t at
  found-values val is at inside = ap (found_at at env number) (sym is) ∙ values-same base low high env x t h at inside

  vector : (e : Extents) (given : List ℕ → Staged (List ℤ)) → array_operand e ≡ later.operands t → ((at : List ℕ) → AreIn at (later.operands t) → given at ≡ later.values t at) → IsVector (first_extent e) given t
  vector e given shape same = record {
    extent = ap later.vector_extent (sym shape) ∙ one_extent e;
    values = λ at is. same at (subst (AreIn at) shape (in_one e (subst (All IsOfRankOne) (sym shape) one) at is));
  }

  shape-of : (val : Value) → env number ≡ val → operands val ≡ later.operands t
  shape-of val is = ap operands (sym is ∙ h.found) ∙ h.shapes

  module _ (d : Dim) (ds : List Dim) (s : Selection) (ps : List Pick) (rest : Selects ds s ps) where
    pub vector-selects : (val : Value) → IsHeld val → env number ≡ val → Selects (d ∷ ds) (with_vector val s) (pick.Vector t ∷ ps)
    vector-selects (variable v) held is = (
      vector (held_extents v.state) (λ at. Ok (map (value_at (held_values v.state)) at)) (shape-of (variable v) is)
          (λ at inside. ap (λ y. let ys : Staged (List ℤ) = Ok (column_at at y) in ys) (sym is) ∙ found-values (variable v) is at inside),
      rest,
    )
    vector-selects (array e xs) held is = (
      vector e (λ at. Ok (map (value_at xs) at)) (shape-of (array e xs) is)
          (λ at inside. ap (λ y. let ys : Staged (List ℤ) = Ok (column_at at y) in ys) (sym is) ∙ found-values (array e xs) is at inside),
      rest,
    )
    vector-selects (part v a inner) held is = (
      vector (extents inner) (λ at. columns inner at >>= elements_at a at) (shape-of (part v a inner) is)
          (λ at inside. sym (elements_found at env number (columns inner at >>= elements_at a at)) ∙ found-values (part v a inner) is at inside),
      rest,
    )
    vector-selects val held is = absurd held

-- ---- one subscript

abbrev pub pick_of : Term → Pick
pick_of (term.Scalar z) = pick.One z
pick_of t = pick.Vector t

pub subscript-picks : (t : Term) → source.subscript true t ≡ Ok (pick_of t)
subscript-picks (term.Scalar z) = refl
subscript-picks t = refl

-- with more of them after it
abbrev pub Adds : Subscript → Pick → ℕ → Environment → Type 0
Adds x p n env = (rho : Environment) → Kept n env rho → (d : Dim) (ds : List Dim) (ss : List Subscript) (ps : List Pick) → Selects ds (selected_by rho ss) ps → Selects (d ∷ ds) (selected_by rho (x ∷ ss)) (p ∷ ps)

scalar-adds : (base low high : ℕ) (env : Environment) (x : Operand) (z : ℤ) → base ≤ low → low ≤ high → Stands base low high env x (term.Scalar z) → Adds (subscript_of x) (pick.One z) high env
scalar-adds base low high env x z g l h rho kept d ds ss ps rest =
    subst (λ b. Selects (d ∷ ds) (selected_by rho ((if b then One x.value else Vector x.value) ∷ ss)) (pick.One z ∷ ps)) (sym h.rank.0)
    (ap scalar_in (kept x.value.number (own-small base low high x.value.number g l h.own) ∙ (h.found ∙ h.rank.1)), rest)

array-adds : (base low high : ℕ) (env : Environment) (x : Operand) (t : Term) → base ≤ low → low ≤ high → (h : Stands base low high env x t) → (rank_of x.kind == 0) ≡ false → IsHeld (env x.value.number) → HasOneDimension t →
    Adds (subscript_of x) (pick.Vector t) high env
array-adds base low high env x t g l h ranked held one rho kept d ds ss ps rest =
    subst (λ b. Selects (d ∷ ds) (selected_by rho ((if b then One x.value else Vector x.value) ∷ ss)) (pick.Vector t ∷ ps)) (sym ranked)
    (subst (λ y. Selects (d ∷ ds) (with_vector y (selected_by rho ss)) (pick.Vector t ∷ ps)) (sym (kept x.value.number (own-small base low high x.value.number g l h.own)))
    (vector-selects base low high env x t h one d ds (selected_by rho ss) ps rest (env x.value.number) held refl))

pub taken-adds : (base low high : ℕ) (env : Environment) (x : Operand) (t : Term) → base ≤ low → low ≤ high → rank_of x.kind ≤ 1 → StandsTaken base low high env x t → Adds (subscript_of x) (pick_of t) high env
taken-adds base low high env x (term.Scalar z) g l few h = scalar-adds base low high env x z g l h.0
taken-adds base low high env x t g l few h = array-adds base low high env x t g l h.0 h.0.rank h.1.0 (h.1.1 few)

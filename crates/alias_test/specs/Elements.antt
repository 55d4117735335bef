-- The elements that a designator selects in a run.
use Rattle.std.specs.Prelude.{◌≡◌, ℕ, suc, Bool, true, false, List, [], ◌∷◌, map, ℤ}
use Rattle.std.specs.List.{flat_map, list_any}
use Rattle.ws_space.specs.declared.shape.Triplet.{Triplet}
use Rattle.ws_space.specs.Subscripts.{selected}
use Rattle.alias_test.specs.declared.designator.Sym.{Sym}
use Rattle.alias_test.specs.declared.designator.Sym.TheVariants.{Other}
use Rattle.alias_test.specs.declared.designator.Form.{Form}
use Rattle.alias_test.specs.declared.designator.Form.TheVariants.{Index, Range, OpaqueIndex, OpaqueRange, Vector}
use Rattle.alias_test.specs.declared.designator.Designator.{Designator}
use Rattle.alias_test.specs.Symbols.{Tree}

-- The values of a run: of the tree of a scalar subscript, of the trees of a triplet, and of the vector subscript of the dimension of this number.
pub record Valuation : Type 0 where
  pub index : Tree → ℤ
  pub range : Tree → Triplet
  pub vector : ℕ → List ℤ

abbrev pub is_other : Sym → Bool
is_other Other = true
is_other s = false

abbrev pub has_other : Tree → Bool
has_other = list_any is_other

-- Both give the same values to all trees without Other.
pub record AgreesWith (v w : Valuation) : Type 0 where
  pub index : (tree : Tree) → has_other tree ≡ false → v.index tree ≡ w.index tree
  pub range : (trees : Tree) → has_other trees ≡ false → v.range trees ≡ w.range trees

-- the subscripts of the dimension of this number
abbrev pub subscripts_in : Valuation → ℕ → Form → List ℤ
subscripts_in v dim (Index i) = i ∷ []
subscripts_in v dim (Range t) = selected t
subscripts_in v dim (OpaqueIndex tree) = v.index tree ∷ []
subscripts_in v dim (OpaqueRange trees) = selected (v.range trees)
subscripts_in v dim Vector = v.vector dim

-- the subscripts of the elements in array element order, of which the first varies fastest, from the dimension of this number on
abbrev pub elements_from : Valuation → ℕ → List Form → List (List ℤ)
elements_from v dim [] = [] ∷ []
elements_from v dim (f ∷ fs) = flat_map (λ is. map (λ i. i ∷ is) (subscripts_in v dim f)) (elements_from v (suc dim) fs)

abbrev pub elements_of : Valuation → Designator → List (List ℤ)
elements_of v d = elements_from v 1 d.forms

-- Sections and loaded elements stand for what their sources leave.
use Rattle.std.proofs.Common.{◌≡◌, refl, sym, ap, ◌∙◌, subst, inr, ℕ, ◌<◌, ◌≤◌, ◌==◌, false, if◌then◌else◌, List, [], ◌∷◌, length, All, Ok, Err, ℤ, arith}
use Rattle.std.proofs.lemmas.List.Elements.{All-nil, All-cons}
use Rattle.ws_base.specs.Outcomes.{Staged, scalar_of, ◌>>=◌}
use Rattle.ws_space.specs.declared.shape.Dim.{Dim}
use Rattle.ws_space.specs.declared.state.ArrayValue.{ArrayValue}
use Rattle.ws_space.specs.declared.state.Var.{Var}
use Rattle.ws_space.specs.Shapes.{Extents, dims}
use Rattle.ws_space.specs.Values.{element}
use Rattle.array_meaning.specs.declared.term.Term.{Term}
use Rattle.array_meaning.specs.declared.term.Term.TheVariants as term
use Rattle.array_meaning.specs.declared.term.Pick.{Pick}
use Rattle.array_meaning.specs.Terms.{terms_open}
use Rattle.array_meaning.specs.Stage1 as source
use Rattle.array_meaning.specs.Stage2 as later
use Rattle.hlfir_ops.specs.declared.kinds.Elem.{Elem}
use Rattle.hlfir_ops.specs.declared.kinds.ValueKind.TheVariants as kind
use Rattle.hlfir_ops.specs.declared.what.What.TheVariants as what
use Rattle.hlfir_ops.specs.RulesValues.{rank_of}
use Rattle.hlfir_meaning.specs.Environments.{Selection, Work, elements_of, part, column, Environment, with_value}
use Rattle.hlfir_meaning.specs.Places.{column_at}
use Rattle.hlfir_meaning.specs.Selections.{array_operand, extents}
use Rattle.hlfir_meaning.specs.Stage1 as walked
use Rattle.hlfir_meaning.specs.Stage2.{done}
use Rattle.hlfir_meaning.specs.Stage1.{stage1}
use Rattle.lower_values.specs.declared.operand.Operand.{Operand}
use Rattle.lower_values.specs.declared.operand.Subscript.{Subscript}
use Rattle.lower_values.specs.Scopes.{Scope}
use Rattle.lower_values.specs.Lowerings.{Lowering, ◌>>=◌ as ◌then◌, giving}
use Rattle.lower_values.specs.References.{part_kind, load_of, loaded, designated}
use Rattle.value_laws.specs.Standing.{Does, Gives, AreIn, Stands}
use Rattle.value_laws.specs.Variables.{IsNamed, IsWholeWhereNamed}
use Rattle.value_laws.proofs.Ordered.{ordered-one}
use Rattle.value_laws.proofs.Walking.{with_value-here, with_value-other, with_value-after, does-done, does-then}
use Rattle.value_laws.proofs.Scalars.{does-scalar}
use Rattle.value_laws.proofs.Wholes.{same_operand}
use Rattle.part_laws.specs.Selects.{Selects, selected_by}
use Rattle.part_laws.specs.Parts.{Refers, IsPart, IsHeld, IsOfRankOne, HasOneDimension, StandsUnnamed}
use Rattle.part_laws.proofs.Selected.{picked-row, same-shapes, HasNone, same-only, same-elements}
use Rattle.part_laws.proofs.Designators.{does-designated}

-- ---- what one deferred op gives

one-gives : (low high n : ℕ) (at : List ℕ) (env : Environment) (work : Work) (r : Staged (List ℤ)) → low ≤ n → n < high → done at env n work ≡ r → Gives low high at env n (record { number = n; work = work } ∷ []) r
one-gives low high n at env work (Ok xs) l h is = (
  with_value n (column xs) env,
  ap (λ q. q >>= (λ ys. let after : Staged Environment = Ok (with_value n (column ys) env) in after)) is,
  ap (column_at at) (with_value-here n (column xs) env),
  record { below = λ k low. with_value-other n k (column xs) env (omega (arith, low, l)); above = λ k past. with_value-after n k (column xs) env (omega (arith, past, h)) },
)
one-gives low high n at env work (Err t) l h is = ap (λ q. q >>= (λ ys. let after : Staged Environment = Ok (with_value n (column ys) env) in after)) is

-- ---- sections

more_than_none : (e : Elem) (m : ℕ) (ms : Extents) → part_kind e (length (m ∷ ms)) ≡ kind.Section e (length (m ∷ ms))
more_than_none e m ms = let some : (length (m ∷ ms) == 0) ≡ false = grind arith in ap (λ b. if b then kind.Place e else kind.Section e (length (m ∷ ms))) some

pub part-shapes : (a : ArrayValue) (ds : List Dim) (s : Selection) (ps : List Pick) → Selects ds s ps → array_operand (extents s) ≡ later.operands (term.Section a ps)
unfolding terms_open
part-shapes a ds s ps h = ap array_operand (same-shapes ds s ps h) ∙ (same_operand (source.picked ps) ∙ ap later.array_operand (sym (picked-row ps)))

module _ (base low high : ℕ) (env : Environment) (x : Operand) (v : Var) (a : ArrayValue) (qs : List Pick) (is : IsPart low high env x v a qs) where
  shapes : array_operand (extents is.selected) ≡ later.operands (term.Section a qs)
  shapes = part-shapes a (dims a.shape) is.selected qs is.selects

  pub section-stands : (e : Elem) (rank : ℕ) → x.kind ≡ kind.Section e rank → (rank == 0) ≡ false → Stands base low high env x (term.Section a qs)
  unfolding terms_open
  section-stands e rank named some = record {
    value = part v a is.selected;
    found = is.found;
    own = inr (is.from, is.upto);
    rank = ap (λ k. rank_of k == 0) named ∙ some;
    whole = subst (λ k. IsWholeWhereNamed k (part v a is.selected) (term.Section a qs)) (sym named) tt;
    shapes = shapes;
    ordered = ordered-one low high (record { number = x.value.number; work = elements_of a is.selected }) is.from is.upto;
    gives = λ other at alike inside. one-gives low high x.value.number at other (elements_of a is.selected) (later.values (term.Section a qs) at) is.from is.upto
        (same-elements a (dims a.shape) is.selected qs is.selects at (subst (AreIn at) (sym shapes) inside));
  }

-- a section of one dimension, by its kind
one_dimension : (m : ℕ) (ms : Extents) → length (m ∷ ms) ≤ 1 → All IsOfRankOne (later.array_operand (m ∷ ms))
one_dimension m [] h = All-cons IsOfRankOne (m ∷ []) [] tt (All-nil IsOfRankOne)
one_dimension m (k ∷ ks) h = absurd (omega (arith, h))

section-dimension : (a : ArrayValue) (qs : List Pick) (m : ℕ) (ms : Extents) → source.picked qs ≡ m ∷ ms → length (m ∷ ms) ≤ 1 → HasOneDimension (term.Section a qs)
unfolding terms_open
section-dimension a qs m ms at h = subst (λ e. All IsOfRankOne (later.array_operand e)) (sym (picked-row qs ∙ at)) (one_dimension m ms h)

-- ---- loads

module _ (vectors : List ℕ) (base low : ℕ) (s : Scope) (n : ℕ) (env : Environment) where
  abbrev Leaves : Operand → Term → ℕ → Environment → Type 0
  Leaves y u m after = StandsUnnamed base low m after y u

  scalar_unnamed : (p : Lowering Operand) (r : Staged ℤ) → (IsNamed (p s n).made.kind → ⊥) → Does vectors s n env p (r >>= (λ z. Ok (term.Scalar z))) (λ y u m after. Stands base low m after y u) →
      Does vectors s n env p (r >>= (λ z. Ok (term.Scalar z))) Leaves
  scalar_unnamed p (Ok z) unnamed h = (h.0, h.1, ((h.2, tt), unnamed))
  scalar_unnamed p (Err t) unnamed h = h

  module _ (x : Operand) (v : Var) (a : ArrayValue) (qs : List Pick) (l : low ≤ n) (is : IsPart low n env x v a qs) where
    loads : (e : Elem) → HasNone (source.picked qs) → Does vectors s n env (load_of (kind.Place e) x) (source.section_or_element [] a qs) Leaves
    unfolding giving
    loads e none = scalar_unnamed (load_of (kind.Place e) x) (scalar_of (element a (source.only qs))) (λ h. h)
        (does-scalar vectors base low what.Load (x.value ∷ []) e s n env l (scalar_of (element a (source.only qs))) refl (λ b. refl)
        (ap (λ y. walked.as_scalar (walked.loaded y)) is.found
        ∙ ap (λ j. walked.as_scalar (scalar_of (element a j))) (same-only (dims a.shape) is.selected qs is.selects (subst HasNone (sym (same-shapes (dims a.shape) is.selected qs is.selects)) none))))

    by_rank : (e : Elem) (shape : Extents) → source.picked qs ≡ shape → x.kind ≡ part_kind e (length shape) → Does vectors s n env (load_of x.kind x) (source.section_or_element shape a qs) Leaves
    unfolding terms_open
    by_rank e [] at named = subst (λ k. Does vectors s n env (load_of k x) (source.section_or_element [] a qs) Leaves) (sym named) (loads e (subst HasNone (sym at) tt))
    by_rank e (m ∷ ms) at named =
        let section = named ∙ more_than_none e m ms in
        subst (λ k. Does vectors s n env (load_of k x) (source.section_or_element (m ∷ ms) a qs) Leaves) (sym section)
        (does-done (stage1 vectors) s n env x (term.Section a qs) Leaves (
          (
            section-stands base low n env x v a qs is e (length (m ∷ ms)) section (grind arith),
            (subst IsHeld (sym is.found) tt, λ few. section-dimension a qs m ms at (subst (λ k. rank_of k ≤ 1) section few)),
          ),
          subst (λ k. IsNamed k → ⊥) (sym section) (λ h. h),
        ))

    pub does-loaded : Does vectors s n env (loaded x) (source.section_or_element (source.picked qs) a qs) Leaves
    unfolding loaded
    does-loaded = by_rank is.kind.0 (source.picked qs) refl is.kind.1

pub does-designator : (vectors : List ℕ) (base low : ℕ) (s : Scope) (n : ℕ) (env : Environment) (r : Operand) (v : Var) (a : ArrayValue) → low ≤ n → Refers base low n env r v a →
    (ss : List Subscript) (ps : List Pick) → Selects (dims a.shape) (selected_by env ss) ps →
    Does vectors s n env (designated r ss then loaded) (source.designator a ps) (λ y u m after. StandsUnnamed base low m after y u)
does-designator vectors base low s n env r v a l refers ss ps h =
    does-then (stage1 vectors) s n env (designated r ss) loaded (source.selected a ps) (λ qs. source.section_or_element (source.picked qs) a qs)
    (λ x qs m after. IsPart low m after x v a qs) (λ y u m after. StandsUnnamed base low m after y u)
    (does-designated vectors base low s n env r v a l refers ss ps h)
    (λ qs m middle at kept is. does-loaded vectors base low s m middle (designated r ss s n).made v a qs (omega (arith, at, l)) is)

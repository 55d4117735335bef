-- SIZE, LBOUND, UBOUND and ALLOCATED of what a declare stands for.
use Rattle.std.proofs.Common.{◌≡◌, refl, sym, ap, ◌∙◌, subst, ℕ, ◌≤◌, Bool, true, false, List, [], ◌∷◌, Option, Some, None, Ok, Err, ℤ, arith, if◌then◌else◌}
use Rattle.std.specs.Prelude.{⊤}
use Rattle.std.proofs.lemmas.Bool.{true≢false}
use Rattle.ws_base.specs.declared.name.Name.{Name}
use Rattle.ws_base.specs.declared.op.CallWord.{CallWord}
use Rattle.ws_base.specs.declared.op.CallWord.TheVariants as word
use Rattle.ws_base.specs.Numbers.{truth}
use Rattle.ws_base.specs.Outcomes.{Staged, scalar_of, ◌>>=◌}
use Rattle.ws_space.specs.declared.state.ArrayValue.{ArrayValue}
use Rattle.ws_space.specs.declared.state.VarState.{VarState}
use Rattle.ws_space.specs.declared.state.VarState.TheVariants as state
use Rattle.ws_space.specs.Shapes.{dims}
use Rattle.ws_space.specs.Inquiries.{dim_at, size_value, lbound_value, ubound_value}
use Rattle.ws_tree.specs.declared.expr.Expr.TheVariants.{Named, Number}
use Rattle.ws_tree.specs.Trees.{Exprs, end_exprs, more_exprs}
use Rattle.ws_types.specs.Expressions.{listed}
use Rattle.ws_types.specs.Operations.{is_inquiry, is_allocated_word}
use Rattle.array_meaning.specs.declared.term.Term.{Term}
use Rattle.array_meaning.specs.declared.term.Term.TheVariants as term
use Rattle.array_meaning.specs.Stage1 as source
use Rattle.hlfir_ops.specs.declared.kinds.Elem.{Elem}
use Rattle.hlfir_ops.specs.declared.kinds.Elem.TheVariants.{I32, I1}
use Rattle.hlfir_ops.specs.declared.kinds.ValueKind.{ValueKind}
use Rattle.hlfir_ops.specs.declared.kinds.ValueKind.TheVariants as kind
use Rattle.hlfir_ops.specs.declared.what.BoundWord.{BoundWord}
use Rattle.hlfir_ops.specs.declared.what.BoundWord.TheVariants.{Lbound, Ubound, Extent}
use Rattle.hlfir_ops.specs.declared.what.What.{What}
use Rattle.hlfir_ops.specs.declared.what.What.TheVariants as what
use Rattle.hlfir_ops.specs.declared.op.ValueId.{ValueId}
use Rattle.hlfir_ops.specs.Trees.{op_of}
use Rattle.hlfir_meaning.specs.Environments.{Value, variable, scalar, Environment, with_value, state_in}
use Rattle.hlfir_meaning.specs.Order.{ends}
use Rattle.hlfir_meaning.specs.References as references
use Rattle.hlfir_meaning.specs.Stage1 as walked
use Rattle.hlfir_meaning.specs.Stage1.{stage1}
use Rattle.lower_values.specs.declared.operand.Operand.{Operand}
use Rattle.lower_values.specs.Scopes.{Scope}
use Rattle.lower_values.specs.Lowerings.{Lowering, done, giving, scoped, ◌>>=◌ as ◌then◌}
use Rattle.lower_values.specs.References.{boxed, reference, bound, size, bound_word, bound_or_size, declare_of, is_allocated, inquiry_of, inquiry}
use Rattle.lower_values.specs.References as lowered
use Rattle.value_laws.specs.Standing.{Goes, Does, Stands}
use Rattle.value_laws.specs.Names.{DeclareStands}
use Rattle.value_laws.proofs.Names.{boxes}
use Rattle.value_laws.proofs.Scalars.{does-scalar}
use Rattle.value_laws.proofs.Walking.{with_value-here, does-done, does-then}

-- ---- a reference

-- a box faults where the variable is not allocated; nothing is done for another variable
abbrev pub reached : ValueKind → VarState → Staged ⊤
reached (kind.Allocatable e rank) held = references.allocated held >>= (λ a. Ok tt)
reached _ held = Ok tt

module _ (vectors : List ℕ) (base low : ℕ) (s : Scope) (n : ℕ) (env : Environment) (g : base ≤ low) (l : low ≤ n) (d : Operand) (held : VarState) (h : DeclareStands base env d held) where
  -- the operand refers to the variable
  abbrev pub Refers : Operand → ⊤ → ℕ → Environment → Type 0
  Refers r u m after = after r.value.number ≡ variable h.var

  box_by : (e : Elem) (rank : ℕ) (q : Staged ArrayValue) → Goes vectors n env (op_of what.Boxed s.line (d.value ∷ []) (Some (kind.Allocatable e rank)) [] ∷ []) (q >>= (λ a. Ok (variable h.var))) (λ x after. after ≡ with_value n x env) →
      Goes vectors n env (op_of what.Boxed s.line (d.value ∷ []) (Some (kind.Allocatable e rank)) [] ∷ []) (q >>= (λ a. let u : Staged ⊤ = Ok tt in u)) (λ u after. after n ≡ variable h.var)
  box_by e rank (Ok a) goes = (goes.0, goes.1, ap (λ f. f n) goes.2 ∙ with_value-here n (variable h.var) env)
  box_by e rank (Err t) goes = goes

  by_kind : (k : ValueKind) → Does vectors s n env (lowered.box_of k d) (reached k held) Refers
  unfolding done giving
  by_kind (kind.Allocatable e rank) = box_by e rank (references.allocated held)
      (subst (λ q. Goes vectors n env (op_of what.Boxed s.line (d.value ∷ []) (Some (kind.Allocatable e rank)) [] ∷ []) (references.allocated q >>= (λ a. Ok (variable h.var))) (λ x after. after ≡ with_value n x env)) h.holds
      (boxes vectors base low s n env h.var d.value g l h.below h.found e rank))
  by_kind k = does-done (stage1 vectors) s n env d tt Refers h.found

  pub does-boxed : Does vectors s n env (boxed d) (reached d.kind held) Refers
  unfolding boxed
  does-boxed = by_kind d.kind

-- ---- an inquiry after it

-- a box of an array that is not allocated faults as the inquiry would
reached_first : (p : Staged ArrayValue) (q : ArrayValue → Staged ℤ) (f : Staged ⊤) → f ≡ (p >>= (λ a. let u : Staged ⊤ = Ok tt in u)) →
    (f >>= (λ _. (p >>= q) >>= (λ z. let t : Staged Term = Ok (term.Scalar z) in t))) ≡ ((p >>= q) >>= (λ z. Ok (term.Scalar z)))
reached_first (Ok a) q f is = ap (λ r. r >>= (λ _. q a >>= (λ z. let t : Staged Term = Ok (term.Scalar z) in t))) is
reached_first (Err e) q f is = ap (λ r. r >>= (λ _. let t : Staged Term = Err e in t)) is

either_reached : (k : ValueKind) (held : VarState) (q : ArrayValue → Staged ℤ) →
    (reached k held >>= (λ _. (references.allocated held >>= q) >>= (λ z. let t : Staged Term = Ok (term.Scalar z) in t))) ≡ ((references.allocated held >>= q) >>= (λ z. Ok (term.Scalar z)))
either_reached (kind.Allocatable e rank) held q = reached_first (references.allocated held) q (references.allocated held >>= (λ a. Ok tt)) refl
either_reached k held q = refl

same_allocated : (held : VarState) → references.allocated held ≡ source.allocated held
same_allocated (state.Scalar z) = refl
same_allocated (state.Array a) = refl
same_allocated (state.Unallocated r) = refl

same_answer : (held : VarState) → references.is_allocated held ≡ source.is_allocated held
same_answer (state.Scalar z) = refl
same_answer (state.Array a) = refl
same_answer (state.Unallocated r) = refl

module _ (vectors : List ℕ) (base low : ℕ) (s : Scope) (n : ℕ) (env : Environment) (g : base ≤ low) (l : low ≤ n) (d : Operand) (held : VarState) (h : DeclareStands base env d held) where
  abbrev Inquires : Lowering Operand → Staged ℤ → Type 0
  Inquires p r = Does vectors s n env p (r >>= (λ z. Ok (term.Scalar z))) (λ x t m after. Stands base low m after x t)

  -- the op on a reference to the variable
  inquires : (w : What) (e : Elem) (q : ArrayValue → Staged ℤ) → ends w ≡ false → ((b : Bool) → walked.is_whole w b ≡ false) →
      ((m : ℕ) (rho : Environment) (v : ValueId) → walked.made m rho w (v ∷ []) [] ≡ walked.as_scalar (references.allocated (state_in (rho v.number)) >>= q)) →
      Inquires (boxed d then (λ r. giving w (r.value ∷ []) (kind.Scalar e))) (references.allocated held >>= q)
  inquires w e q goes_on whole makes =
      subst (λ r. Does vectors s n env (boxed d then (λ x. giving w (x.value ∷ []) (kind.Scalar e))) r (λ x t m after. Stands base low m after x t)) (either_reached d.kind held q)
      (does-then (stage1 vectors) s n env (boxed d) (λ x. giving w (x.value ∷ []) (kind.Scalar e)) (reached d.kind held) (λ _. (references.allocated held >>= q) >>= (λ z. Ok (term.Scalar z)))
      (Refers vectors base low s n env g l d held h) (λ x t m after. Stands base low m after x t) (does-boxed vectors base low s n env g l d held h)
      (λ u m after at kept refers. does-scalar vectors base low w ((boxed d s n).made.value ∷ []) e s m after (omega (arith, at, l)) (references.allocated held >>= q) goes_on whole
      (makes m after (boxed d s n).made.value ∙ (ap (λ x. walked.as_scalar (references.allocated (state_in x) >>= q)) refers ∙ ap (λ c. walked.as_scalar (references.allocated c >>= q)) h.holds))))

  of_source : (p : Lowering Operand) (q : ArrayValue → Staged ℤ) → Inquires p (references.allocated held >>= q) → Inquires p (source.allocated held >>= q)
  of_source p q = subst (λ a. Inquires p (a >>= q)) (same_allocated held)

  bound_of : (w : BoundWord) (dim : ℕ) → Inquires (boxed d then (λ r. bound w dim r)) (references.allocated held >>= (λ a. scalar_of (references.bound_value w (dim_at (dims a.shape) dim))))
  unfolding bound
  bound_of w dim = inquires (what.Bound w dim) I32 (λ a. scalar_of (references.bound_value w (dim_at (dims a.shape) dim))) refl (λ b. refl) (λ m rho v. refl)

  size_of : (dim : Option ℕ) → Inquires (boxed d then size dim) (references.allocated held >>= (λ a. scalar_of (size_value (dims a.shape) dim)))
  size_of None = inquires what.Size I32 (λ a. scalar_of (size_value (dims a.shape) None)) refl (λ b. refl) (λ m rho v. refl)
  size_of (Some k) = bound_of Extent k

  -- of the declare, and not of a box
  whether_allocated : Inquires (is_allocated d) (Ok (truth (source.is_allocated held)))
  whether_allocated = does-scalar vectors base low what.Allocated (d.value ∷ []) I1 s n env l (Ok (truth (source.is_allocated held))) refl (λ b. refl)
      (ap (λ x. let r : Staged Value = Ok (scalar (truth (references.is_allocated (state_in x)))) in r) h.found
      ∙ ap (λ b. let r : Staged Value = Ok (scalar (truth b)) in r) (ap references.is_allocated h.holds ∙ same_answer held))

  inquiry_by : (w : CallWord) → is_inquiry w ≡ true → (dim : Option ℕ) → Inquires (if is_allocated_word w then is_allocated d else (boxed d then bound_or_size (bound_word w) dim)) (source.inquired w held dim)
  inquiry_by word.Size is dim = of_source (boxed d then size dim) (λ a. scalar_of (size_value (dims a.shape) dim)) (size_of dim)
  inquiry_by word.Lbound is dim = of_source (boxed d then (λ r. bound Lbound (lowered.dimension dim) r)) (λ a. scalar_of (lbound_value (dim_at (dims a.shape) (lowered.dimension dim)))) (bound_of Lbound (lowered.dimension dim))
  inquiry_by word.Ubound is dim = of_source (boxed d then (λ r. bound Ubound (lowered.dimension dim) r)) (λ a. scalar_of (ubound_value (dim_at (dims a.shape) (lowered.dimension dim)))) (bound_of Ubound (lowered.dimension dim))
  inquiry_by word.Allocated is dim = whether_allocated
  inquiry_by w is dim = absurd (true≢false (sym is))

-- ---- by name

same_dimension : {k : _} (x : Name) (es : Exprs k) → lowered.dimension_in (listed (more_exprs (Named x) es)) ≡ source.dimension_in (more_exprs (Named x) es)
same_dimension x end_exprs = refl
same_dimension x (more_exprs (Number k) es) = refl
same_dimension x (more_exprs e es) = refl

module _ (vectors : List ℕ) (base low : ℕ) (s : Scope) (n : ℕ) (env : Environment) (g : base ≤ low) (l : low ≤ n) (x : Name) (held : VarState) (h : DeclareStands base env (declare_of s.names x) held) where
  abbrev Answers : Lowering Operand → Staged Term → Type 0
  Answers p r = Does vectors s n env p r (λ y t m after. Stands base low m after y t)

  of_name : (w : CallWord) (dim : Option ℕ) (r : Staged Term) (b : Bool) → Answers (if b then is_allocated (declare_of s.names x) else (boxed (declare_of s.names x) then bound_or_size (bound_word w) dim)) r →
      Answers (if b then scoped (λ q. is_allocated (declare_of q.names x)) else (reference x then bound_or_size (bound_word w) dim)) r
  unfolding reference scoped ◌then◌
  of_name w dim r true does = does
  of_name w dim r false does = does

  pub does-inquiry : {k : _} (w : CallWord) (es : Exprs k) → is_inquiry w ≡ true → Answers (inquiry w (listed (more_exprs (Named x) es))) (source.known (source.inquired w held (source.dimension_in (more_exprs (Named x) es))))
  unfolding inquiry
  does-inquiry w es is =
      subst (λ dim. Answers (inquiry w (listed (more_exprs (Named x) es))) (source.known (source.inquired w held dim))) (same_dimension x es)
      (of_name w (lowered.dimension_in (listed (more_exprs (Named x) es))) (source.known (source.inquired w held (lowered.dimension_in (listed (more_exprs (Named x) es))))) (is_allocated_word w)
      (inquiry_by vectors base low s n env g l (declare_of s.names x) held h w is (lowered.dimension_in (listed (more_exprs (Named x) es)))))

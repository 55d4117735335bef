-- One index of a header, and the rest of the header after it.
use Rattle.std.proofs.Common.{◌≡◌, refl, sym, ap, ◌∙◌, ℕ, ◌+◌, ◌<◌, ◌≤◌, List, [], ◌∷◌, ◌++◌, map, Option, Some, None, Ok, Err, ℤ, pos, arith, append-nil}
use Rattle.ws_base.specs.Outcomes.{Staged, ◌>>=◌}
use Rattle.ws_space.specs.declared.shape.Triplet.{Triplet}
use Rattle.ws_space.specs.Sections.{with_stride}
use Rattle.ws_tree.specs.declared.expr.Expr.{Expr}
use Rattle.array_meaning.specs.declared.world.World.{World}
use Rattle.array_meaning.specs.declared.term.Term.{Term}
use Rattle.array_meaning.specs.Stage1 as once
use Rattle.array_meaning.specs.Stage1.{value_of}
use Rattle.array_meaning.specs.Forall as source
use Rattle.hlfir_ops.specs.declared.op.ValueId.{ValueId}
use Rattle.hlfir_ops.specs.declared.op.Op.{Op}
use Rattle.hlfir_ops.specs.Numbers.{numbers_of}
use Rattle.hlfir_ops.proofs.Numbered.{numbers_of-append}
use Rattle.hlfir_meaning.specs.Environments.{Value, scalar, scalar_in, Environment, Yielded}
use Rattle.hlfir_meaning.specs.Stage1.{stage1}
use Rattle.hlfir_meaning.specs.Combinations.{stepping, after, greater, last_part, axes}
use Rattle.lower_values.specs.declared.operand.Operand.{Operand}
use Rattle.value_laws.specs.Standing.{Kept, Goes}
use Rattle.world_laws.specs.Yields.{scalars_of}
use Rattle.world_laws.proofs.Listing.{stride_of, triple_exprs}
use Rattle.forall_laws.proofs.LastOps.{IsLast}
use Rattle.forall_laws.proofs.Pieces.{StartsUpTo, starts-below, starts-append, starts-last, up_to-piece, after-piece, greater-right, greater-below}

-- ---- the three values of an index, in order

abbrev pub three_of : Staged Term → Staged Term → Staged Term → Staged (List ℤ)
three_of p q r =
    p >>= (λ a. (q >>= (λ b. (r >>= (λ c. let none : Staged (List ℤ) = Ok [] in none >>= (λ zs. let k : Staged (List ℤ) = Ok (value_of c ∷ zs) in k))) >>= (λ zs. let k : Staged (List ℤ) = Ok (value_of b ∷ zs) in k))) >>= (λ zs. let k : Staged (List ℤ) = Ok (value_of a ∷ zs) in k))

abbrev pub stepped : Staged Term → Staged Term → Staged Term → Staged Triplet
stepped p q r =
    (p >>= (λ a. let k : Staged ℤ = Ok (value_of a) in k)) >>= (λ l. (q >>= (λ b. let k : Staged ℤ = Ok (value_of b) in k)) >>= (λ u. (r >>= (λ c. let k : Staged ℤ = Ok (value_of c) in k)) >>= (λ z. with_stride (record { l = l; u = u; s = z }))))

pub scalars-three : (w : World) (l u : Expr) (st : Option Expr) → scalars_of w (triple_exprs l u st) ≡ three_of (once.walk w l) (once.walk w u) (once.walk w (stride_of st))
scalars-three w l u st = refl

pub stepping-three : (w : World) (l u : Expr) (st : Option Expr) → source.stepping w l u st ≡ stepped (once.walk w l) (once.walk w u) (once.walk w (stride_of st))
stepping-three w l u None = refl
stepping-three w l u (Some e) = refl

-- ---- where the index is complete

last_low : (n : ℕ) (ops : List Op) (number : ℕ) → IsLast n ops number → number < n + numbers_of ops
last_low n ops number h =
    let e = h.place in let k = h.some in
    let all : numbers_of ops ≡ numbers_of h.before + numbers_of (h.op ∷ []) = ap numbers_of h.all ∙ numbers_of-append h.before (h.op ∷ []) in
    omega (arith, e, k, all)

module _ (m : ℕ) (ls bs cs : List Op) (l u z : ValueId) (hl : IsLast m ls l.number) (hu : IsLast (m + numbers_of ls) bs u.number) (hz : IsLast ((m + numbers_of ls) + numbers_of bs) cs z.number) where
  abbrev pub all_ops : List Op
  all_ops = ls ++ (bs ++ (cs ++ []))

  abbrev last : ℕ
  last = last_part l u z

  reaches : z.number ≤ last
  reaches = let a = greater-right u.number z.number in let b = greater-right l.number (greater u.number z.number) in omega (arith, a, b)

  many : numbers_of all_ops ≡ (numbers_of ls + numbers_of bs) + numbers_of cs
  many = numbers_of-append ls (bs ++ (cs ++ [])) ∙ (ap (λ k. numbers_of ls + k) (numbers_of-append bs (cs ++ []) ∙ ap (λ ops. numbers_of bs + numbers_of ops) (append-nil cs)) ∙ (let e : numbers_of ls + (numbers_of bs + numbers_of cs) ≡ (numbers_of ls + numbers_of bs) + numbers_of cs = omega arith in e))

  pub piece-starts : StartsUpTo last m all_ops
  piece-starts =
      let place = hz.place in let r = reaches in
      starts-append last m ls (bs ++ (cs ++ [])) (starts-below last m ls (omega (arith, place, r)))
      (starts-append last (m + numbers_of ls) bs (cs ++ []) (starts-below last (m + numbers_of ls) bs (omega (arith, place, r)))
      (starts-append last ((m + numbers_of ls) + numbers_of bs) cs [] (starts-last last ((m + numbers_of ls) + numbers_of bs) cs z.number hz r) tt))

  pub piece-low : last < m + numbers_of all_ops
  piece-low =
      let a = last_low m ls l.number hl in let b = last_low (m + numbers_of ls) bs u.number hu in let c = last_low ((m + numbers_of ls) + numbers_of bs) cs z.number hz in let k = many in
      greater-below l.number (greater u.number z.number) (m + numbers_of all_ops) (omega (arith, a, k)) (greater-below u.number z.number (m + numbers_of all_ops) (omega (arith, b, k)) (omega (arith, c, k)))

module _ (vectors : List ℕ) (m : ℕ) (env : Environment) (xs ys : List Op) (x y z : Operand) (ws : List ValueId) where
  abbrev on_axes : Environment → List Op → List Op → Triplet → Staged (List Triplet)
  on_axes rho a c t = axes vectors (numbers_of a + m) rho ws c >>= (λ ts. let k : Staged (List Triplet) = Ok (t ∷ ts) in k)

  abbrev after_walk : List Op → List Op → Yielded → Staged (List Triplet)
  after_walk a c q = stepping q.env x.value y.value z.value >>= on_axes q.env a c

  pub axes-piece : StartsUpTo (last_part x.value y.value z.value) m xs → last_part x.value y.value z.value < m + numbers_of xs →
      axes vectors m env (x.value ∷ y.value ∷ z.value ∷ ws) (xs ++ ys) ≡ (stage1 vectors m env xs >>= after_walk xs ys)
  axes-piece starts low =
      let last = last_part x.value y.value z.value in
      ap (λ a. stage1 vectors m env a >>= after_walk a (after last m (xs ++ ys))) (up_to-piece last m xs ys starts low) ∙ ap (λ c. stage1 vectors m env xs >>= after_walk xs c) (after-piece last m xs ys starts low)

  abbrev first_of : List Value → ℤ
  first_of [] = pos 0
  first_of (v ∷ vs) = scalar_in v

  abbrev others : List Value → List Value
  others [] = []
  others (v ∷ vs) = vs

  abbrev ThreeStand : List ℤ → Environment → Type 0
  ThreeStand zs rho = map (λ o. rho o.value.number) (x ∷ y ∷ z ∷ []) ≡ map scalar zs

  faulted : (t : _) → ((rest : List Op) → stage1 vectors m env (xs ++ rest) ≡ Err t) → (stage1 vectors m env xs >>= after_walk xs ys) ≡ Err t
  faulted t h = ap (λ q. q >>= after_walk xs ys) (ap (stage1 vectors m env) (sym (append-nil xs)) ∙ h [])

  pub axes-walked : (p q r : Staged Term) (rest : Staged (List Triplet)) → Goes vectors m env xs (three_of p q r) ThreeStand → ((rho : Environment) → Kept m env rho → axes vectors (numbers_of xs + m) rho ws ys ≡ rest) →
      (stage1 vectors m env xs >>= after_walk xs ys) ≡ (stepped p q r >>= (λ t. rest >>= (λ ts. let k : Staged (List Triplet) = Ok (t ∷ ts) in k)))
  axes-walked (Err t) q r rest h g = faulted t h
  axes-walked (Ok a) (Err t) r rest h g = faulted t h
  axes-walked (Ok a) (Ok b) (Err t) rest h g = faulted t h
  axes-walked (Ok a) (Ok b) (Ok c) rest h g =
      let rho = h.0 in
      let e = h.2 in
      let k : Triplet → Staged (List Triplet) = λ t. rest >>= (λ ts. let q : Staged (List Triplet) = Ok (t ∷ ts) in q) in
      ap (λ s. s >>= after_walk xs ys) (ap (stage1 vectors m env) (sym (append-nil xs)) ∙ h.1.walked [])
      ∙ (ap (λ i. with_stride (record { l = i; u = scalar_in (rho y.value.number); s = scalar_in (rho z.value.number) }) >>= on_axes rho xs ys) (ap first_of e)
      ∙ (ap (λ i. with_stride (record { l = value_of a; u = i; s = scalar_in (rho z.value.number) }) >>= on_axes rho xs ys) (ap (λ vs. first_of (others vs)) e)
      ∙ (ap (λ i. with_stride (record { l = value_of a; u = value_of b; s = i }) >>= on_axes rho xs ys) (ap (λ vs. first_of (others (others vs))) e)
      ∙ ap (λ o. with_stride (record { l = value_of a; u = value_of b; s = value_of c }) >>= (λ t. o >>= (λ ts. let q : Staged (List Triplet) = Ok (t ∷ ts) in q))) (g rho h.1.kept))))

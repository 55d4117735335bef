-- One more effect of a unit is laid over what is there, whatever other units have done; and what a unit reads meanwhile.
use Rattle.std.proofs.Common.{◌≡◌, ◌≢◌, ◌⊎◌, inl, inr, ℕ, zero, suc, ◌<◌, ◌≤◌, min, List, [], ◌∷◌, ◌++◌, length, take, sym, refl, ap, ◌∙◌, subst, arith, slice_index}
use mathlib.Core.Logic.{dite}
use mathlib.Core.Option.{some}
use native.Mathlib.Decide.{ℕ_discrete}
use lib.ListN.{get_elem?}
use Rattle.phase_ops.specs.declared.effect.Effect.{Effect}
use Rattle.phase_ops.specs.declared.effect.Effect.TheVariants.{Store, Least, Fault}
use Rattle.phase_ops.specs.Phases.{Cells, over, lay}
use Rattle.phase_ops.specs.Free.{In, stored, lessened}
use Rattle.phase_ops.specs.Course.{Memory, apply, lay_both, Work, all_effects, FreeOfRaces}
use Rattle.phase_ops.proofs.Frame.{over_length, over_both}
use Rattle.phase_ops.proofs.Strands.{lay_quiet}
use Rattle.phase_ops.proofs.Strands as strands
use Rattle.phase_ops.proofs.Laying.{lay-append, lay_comm, units_apart}
use Rattle.team_core.specs.Front.{laid}
use Rattle.team_core.proofs.Lists.{member_at, member_taken, take_next, take_whole}

abbrev pick : {P : Type 0} → Dec P → ℕ → ℕ → ℕ
pick (yes _) a b = a
pick (no _) a b = b

pub put : (ℕ → ℕ) → ℕ → ℕ → ℕ → ℕ
put f i c j = pick (ℕ_discrete j i) c (f j)

pub put_here : (f : ℕ → ℕ) (i c : ℕ) → put f i c i ≡ c
unfolding put
put_here f i c = go (ℕ_discrete i i)
  where
    go : (d : Dec (i ≡ i)) → pick d c (f i) ≡ c
    go (yes _) = refl
    go (no n) = absurd (n refl)

pub put_else : (f : ℕ → ℕ) (i c j : ℕ) → j ≢ i → put f i c j ≡ f j
unfolding put
put_else f i c j other = go (ℕ_discrete j i)
  where
    go : (d : Dec (j ≡ i)) → pick d c (f j) ≡ f j
    go (yes e) = absurd (other e)
    go (no _) = refl

module _ (w : Work) where
  -- two counts that agree below k lay the same effects
  pub laid_same : (f g : ℕ → ℕ) (k : ℕ) → ((u : ℕ) → u < k → f u ≡ g u) → laid w f k ≡ laid w g k
  laid_same f g zero h = refl
  laid_same f g (suc k) h = λ i. laid_same f g k (λ u l. h u (omega arith)) i ++ take (h k (omega arith) i) (w.effects k)

  pub laid_all : (f : ℕ → ℕ) (k : ℕ) → ((u : ℕ) → u < k → f u ≡ length (w.effects u)) → laid w f k ≡ all_effects w k
  laid_all f zero h = refl
  laid_all f (suc k) h = λ i. laid_all f k (λ u l. h u (omega arith)) i ++ (ap (λ (n : ℕ). take n (w.effects k)) (h k (omega arith)) ∙ take_whole (w.effects k)) i

  -- one more effect of the unit u
  pub laid_more : (free : FreeOfRaces w) (m : Memory) (f : ℕ → ℕ) (u k : ℕ) (e : Effect) → k ≤ w.units → u < k → get_elem? (w.effects u) (f u) ≡ some e
      → lay_both m (laid w (put f u (suc (f u))) k) ≡ apply e (lay_both m (laid w f k))
  laid_more free m f u zero e most l at = absurd (omega arith)
  laid_more free m f u (suc k) e most l at =
      let g : ℕ → ℕ = put f u (suc (f u)) in
      let before : Memory = lay_both m (laid w f k) in
      lay-append m (laid w g k) (take (g k) (w.effects k)) ∙ dite (ℕ_discrete k u)
      (λ here. let same : laid w g k ≡ laid w f k = laid_same g f k (λ v l'. put_else f u (suc (f u)) v (omega arith)) in
      (λ i. lay_both (lay_both m (same i)) (take (((ap g here) ∙ put_here f u (suc (f u))) i) (w.effects (here i))))
      ∙ ap (λ (es : List Effect). lay_both before es) (take_next (w.effects u) (f u) e at)
      ∙ lay-append before (take (f u) (w.effects u)) (e ∷ [])
      ∙ ap (λ (z : Memory). apply e z) (sym (lay-append m (laid w f k) (take (f u) (w.effects u))) ∙ (λ i. lay_both m (laid w f k ++ take (f (sym here i)) (w.effects (sym here i))))))
      (λ other. (λ i. lay_both (laid_more free m f u k e (omega arith) (omega arith) at i) (take (put_else f u (suc (f u)) k other i) (w.effects k)))
      ∙ lay_comm before e (take (f k) (w.effects k)) (λ g' h. units_apart w free u k (omega arith) (omega arith) (λ q. other (sym q)) e g' (member_at (w.effects u) (f u) e at) (member_taken (w.effects k) (f k) g' h))
      ∙ ap (λ (z : Memory). apply e z) (sym (lay-append m (laid w f k) (take (f k) (w.effects k)))))

-- ---- what is read meanwhile

lay_app : (m : Cells) (xs ys : List Effect) → lay m (xs ++ ys) ≡ lay (lay m xs) ys
lay_app m [] ys = refl
lay_app m (x ∷ xs) ys = lay_app (over x m) xs ys

lay_over : (c : ℕ) (xs ys : Cells) (es : List Effect) → length xs ≡ length ys → slice_index xs c ≡ slice_index ys c → slice_index (lay xs es) c ≡ slice_index (lay ys es) c
lay_over c xs ys [] n s = s
lay_over c xs ys (e ∷ es) n s = lay_over c (over e xs) (over e ys) es (over_length e xs ∙ n ∙ sym (over_length e ys)) (over_both e xs ys c n s)

stored_taken : (c n : ℕ) (es : List Effect) → In c (stored (take n es)) → In c (stored es)
stored_taken c zero [] h = h
stored_taken c (suc n) [] h = h
stored_taken c zero (e ∷ es) h = elim h [ ]
stored_taken c (suc n) (Store d v ∷ es) (inl e) = inl e
stored_taken c (suc n) (Store d v ∷ es) (inr h) = inr (stored_taken c n es h)
stored_taken c (suc n) (Least d v ∷ es) h = stored_taken c n es h
stored_taken c (suc n) (Fault k ∷ es) h = stored_taken c n es h

lessened_taken : (c n : ℕ) (es : List Effect) → In c (lessened (take n es)) → In c (lessened es)
lessened_taken c zero [] h = h
lessened_taken c (suc n) [] h = h
lessened_taken c zero (e ∷ es) h = elim h [ ]
lessened_taken c (suc n) (Store d v ∷ es) h = lessened_taken c n es h
lessened_taken c (suc n) (Least d v ∷ es) (inl e) = inl e
lessened_taken c (suc n) (Least d v ∷ es) (inr h) = inr (lessened_taken c n es h)
lessened_taken c (suc n) (Fault k ∷ es) h = lessened_taken c n es h

-- the effects neither store to the cell nor lay a Least over it
abbrev Quiet : ℕ → List Effect → Type 0
Quiet c es = In c (stored es) ⊎ In c (lessened es) → ⊥

quiet_taken : (c n : ℕ) (es : List Effect) → Quiet c es → Quiet c (take n es)
quiet_taken c n es q (inl h) = q (inl (stored_taken c n es h))
quiet_taken c n es q (inr h) = q (inr (lessened_taken c n es h))

-- a cell that no unit below k changes
pub laid_quiet : (w : Work) (m : Cells) (f : ℕ → ℕ) (k c : ℕ) → ((v : ℕ) → v < k → Quiet c (w.effects v)) → slice_index (lay m (laid w f k)) c ≡ slice_index m c
laid_quiet w m f zero c quiet = refl
laid_quiet w m f (suc k) c quiet = ap (λ (z : Cells). slice_index z c) (lay_app m (laid w f k) (take (f k) (w.effects k)))
    ∙ lay_quiet (lay m (laid w f k)) (take (f k) (w.effects k)) c (quiet_taken c (f k) (w.effects k) (quiet k (omega arith)))
    ∙ laid_quiet w m f k c (λ v l. quiet v (omega arith))

-- no other unit changes a cell that a unit reads
others_quiet : (w : Work) → FreeOfRaces w → (u v c : ℕ) → u < w.units → v < w.units → u ≢ v → In c (w.reads u) → Quiet c (w.effects v)
others_quiet w free u v c hu hv n r (inl h) = n (sym (free.loads_apart v u c hv hu h r))
others_quiet w free u v c hu hv n r (inr h) = free.leasts v u c hv hu h (inr r)

-- a cell that a unit reads is as the unit's own effects leave it
pub laid_read : (w : Work) → FreeOfRaces w → (m : Cells) (f : ℕ → ℕ) (u k c : ℕ) → k ≤ w.units → u < k → In c (w.reads u)
    → slice_index (lay m (laid w f k)) c ≡ slice_index (lay m (take (f u) (w.effects u))) c
laid_read w free m f u zero c most l r = absurd (omega arith)
laid_read w free m f u (suc k) c most l r =
    ap (λ (z : Cells). slice_index z c) (lay_app m (laid w f k) (take (f k) (w.effects k))) ∙ dite (ℕ_discrete k u)
    (λ here. subst (λ (z : ℕ). slice_index (lay (lay m (laid w f k)) (take (f z) (w.effects z))) c ≡ slice_index (lay m (take (f u) (w.effects u))) c) (sym here)
    (lay_over c (lay m (laid w f k)) m (take (f u) (w.effects u)) (strands.lay_length m (laid w f k))
    (laid_quiet w m f k c (λ v l'. others_quiet w free u v c (omega arith) (omega arith) (λ e. omega arith) r))))
    (λ other. lay_quiet (lay m (laid w f k)) (take (f k) (w.effects k)) c (quiet_taken c (f k) (w.effects k) (others_quiet w free u k c (omega arith) (omega arith) (λ e. other (sym e)) r))
    ∙ laid_read w free m f u k c (omega arith) (omega arith) r)

-- ---- keys and lengths

pub lay_key : (m : Memory) (es : List Effect) → (lay_both m es).1 ≤ m.1
lay_key m [] = omega arith
lay_key m (Store c v ∷ es) = lay_key (apply (Store c v) m) es
lay_key m (Least c v ∷ es) = lay_key (apply (Least c v) m) es
lay_key m (Fault k ∷ es) = let h = lay_key (m.0, min m.1 k) es in omega arith

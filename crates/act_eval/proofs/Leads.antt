-- What was done on the way from one view to another.
use Rattle.std.proofs.Common.{◌≡◌, List, [], ◌∷◌, ◌++◌, sym, refl, ap, ◌∙◌, subst}
use Rattle.std.proofs.lemmas.List.{append_assoc}
use Rattle.phase_ops.specs.declared.effect.Effect.{Effect}
use Rattle.phase_ops.specs.Phases.{Cells, lay, over}
use Rattle.act_eval.specs.Sites.{View, Led}

pub lay_append : (m : Cells) (xs ys : List Effect) → lay m (xs ++ ys) ≡ lay (lay m xs) ys
lay_append m [] ys = refl
lay_append m (x ∷ xs) ys = lay_append (over x m) xs ys

pub led_same : (v v' : View) → v' ≡ v → Led v v'
led_same v v' e = subst (λ (z : View). Led v z) (sym e) (record { did = []; left_was = refl; cells_are = refl; may_is = refl })

pub led_then : (a b c : View) → Led a b → Led b c → Led a c
led_then a b c p q = record {
  did = p.did ++ q.did;
  left_was = p.left_was ∙ ap (λ (l : List Effect). p.did ++ l) q.left_was ∙ sym (append_assoc p.did q.did c.left);
  cells_are = q.cells_are ∙ ap (λ (m : Cells). lay m q.did) p.cells_are ∙ sym (lay_append a.cells p.did q.did);
  may_is = q.may_is ∙ p.may_is;
}

pub led_act : (v v' : View) (e : Effect) (more : List Effect) → v.left ≡ e ∷ more → v' ≡ record { left = more; cells = over e v.cells; may = v.may } → Led v v'
led_act v v' e more l q = subst (λ (z : View). Led v z) (sym q) (record { did = e ∷ []; left_was = l; cells_are = refl; may_is = refl })

pub led_by : (v v0 v' : View) (e : Effect) → v0 ≡ v → ((more : List Effect) × (v.left ≡ e ∷ more)) → ((more : List Effect) → v0.left ≡ e ∷ more → v' ≡ record { left = more; cells = over e v0.cells; may = v0.may }) → Led v v'
led_by v v0 v' e same h told =
    led_then v v0 v' (led_same v v0 same) (led_act v0 v' e h.0 (ap (λ (z : View). z.left) same ∙ h.1) (told h.0 (ap (λ (z : View). z.left) same ∙ h.1)))

-- What stands for a term still does so later, and operands one after another with an operator after them.
use Rattle.std.proofs.Common.{◌≡◌, ◌∙◌, ℕ, ◌+◌, ◌≤◌, false, List, Ok, Err, ℤ, arith}
use Rattle.ws_base.specs.declared.op.BinOp.{BinOp}
use Rattle.ws_base.specs.Outcomes.{Staged, ◌>>=◌}
use Rattle.ws_space.specs.Values.{is_among}
use Rattle.array_meaning.specs.declared.term.Term.{Term}
use Rattle.array_meaning.specs.Stage1 as source
use Rattle.array_meaning.specs.Stage2 as later
use Rattle.hlfir_ops.specs.Numbers.{numbers_of}
use Rattle.hlfir_meaning.specs.Environments.{Environment, Deferred}
use Rattle.hlfir_meaning.specs.Stage2.{deferred_by}
use Rattle.hlfir_meaning.specs.Stage1.{stage1}
use Rattle.lower_values.specs.declared.operand.Operand.{Operand}
use Rattle.lower_values.specs.Scopes.{Scope}
use Rattle.lower_values.specs.Lowerings.{Lowering, ◌>>=◌ as ◌then◌}
use Rattle.lower_values.specs.Operations.{binary_of, binary_operation}
use Rattle.value_laws.specs.Standing.{Kept, Alike, Gives, Stands}
use Rattle.value_laws.specs.Laws.{Leaves}
use Rattle.value_laws.proofs.Ordered.{ordered-wider}
use Rattle.value_laws.proofs.Elementals.{own-small, own-wider}
use Rattle.value_laws.proofs.Operations.{does-binary}
use Rattle.value_laws.proofs.Walking.{does-then}

gives-wider : (low low' high high' : ℕ) (at : List ℕ) (env : Environment) (n : ℕ) (ds : List Deferred) (r : Staged (List ℤ)) → low' ≤ low → high ≤ high' → Gives low high at env n ds r → Gives low' high' at env n ds r
gives-wider low low' high high' at env n ds (Ok xs) l g h = (h.0, h.1, h.2, record { below = λ k is. h.3.below k (omega (arith, is, l)); above = λ k is. h.3.above k (omega (arith, is, g)) })
gives-wider low low' high high' at env n ds (Err t) l g h = h

pub stands-moved : (base low low' high high' : ℕ) (env after : Environment) (x : Operand) (t : Term) → low' ≤ low → high ≤ high' → Alike base low high env after → Stands base low high env x t → Stands base low' high' after x t
stands-moved base low low' high high' env after x t l g alike h = record {
  value = h.value;
  found = alike x.value.number h.own ∙ h.found;
  own = own-wider base low low' high high' x.value.number l g h.own;
  rank = h.rank;
  whole = h.whole;
  shapes = h.shapes;
  ordered = ordered-wider low low' high high' (deferred_by x.value.number h.value) l g h.ordered;
  gives = λ other at same is. gives-wider low low' high high' at other x.value.number (deferred_by x.value.number h.value) (later.values t at) l g
      (h.gives other at (λ k own. same k (own-wider base low low' high high' k l g own) ∙ alike k own) is);
}

-- values below the next free number are kept by what comes after them
pub kept-alike : (base low high : ℕ) (env after : Environment) → base ≤ low → low ≤ high → Kept high env after → Alike base low high env after
kept-alike base low high env after g l kept k own = kept k (own-small base low high k g l own)

module _ (vectors : List ℕ) (base : ℕ) (s : Scope) (n : ℕ) (env : Environment) (p q : Lowering Operand) (r u : Staged Term) (op : BinOp) (g : base ≤ n) where
  pub does-both : Leaves vectors base n s n env p r → ((m : ℕ) (middle : Environment) → m ≡ n + numbers_of (p s n).ops → Kept n env middle → Leaves vectors base m s m middle q u) →
      ((m k : ℕ) → m ≡ n + numbers_of (p s n).ops → k ≡ m + numbers_of (q s m).ops → is_among k vectors ≡ false) →
      Leaves vectors base n s n env (p then (λ x. q then (λ y. binary_operation (binary_of op) x y))) (r >>= (λ t. u >>= (λ w. source.binary_on op t w)))
  does-both hp hq free =
      does-then (stage1 vectors) s n env p (λ x. q then (λ y. binary_operation (binary_of op) x y)) r (λ t. u >>= (λ w. source.binary_on op t w))
      (λ x t m after. Stands base n m after x t) (λ z t m after. Stands base n m after z t) hp
      (λ t m middle at kept hx.
      let l : n ≤ m = omega (arith, at) in
      does-then (stage1 vectors) s m middle q (λ y. binary_operation (binary_of op) (p s n).made y) u (λ w. source.binary_on op t w)
      (λ y w k after. Stands base m k after y w) (λ z w k after. Stands base n k after z w) (hq m middle at kept)
      (λ w k after at' kept' hy.
      let l' : m ≤ k = omega (arith, at') in
      does-binary vectors base n s k after (p s n).made g m (q s m).made l l' op t w (free m k at at')
      (stands-moved base n n m m middle after (p s n).made t (omega arith) (omega arith) (kept-alike base n m middle after g l kept') hx) hy))

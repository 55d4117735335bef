-- The values of an expression over combinations are those at each combination alone.
use Rattle.std.proofs.Common.{◌≡◌, sym, ap, ◌∙◌, Bool, true, false, List, [], ◌∷◌, map, Option, Some, Ok, ℤ}
use Rattle.std.specs.Prelude.{if◌then◌else◌, pos}
use mathlib.Core.Path.{fun_ext}
use Rattle.ws_base.specs.declared.op.CallWord.{CallWord}
use Rattle.ws_base.specs.Numbers.{Exact, truth, default_half, unary_value, call_value}
use Rattle.ws_base.specs.Outcomes.{Staged, ◌>>=◌}
use Rattle.ws_space.specs.Values.{state_of}
use Rattle.ws_space.specs.Maps.{pair_value, call_map}
use Rattle.ws_tree.specs.declared.expr.Expr.{Expr}
use Rattle.ws_tree.specs.declared.expr.Expr.TheVariants.{Number, TooWide, TooDeep, Truth, Named, Part', Call', Vector'}
use Rattle.ws_tree.specs.declared.expr.Sub.TheVariants as sub
use Rattle.ws_tree.specs.Trees.{Exprs, end_exprs, more_exprs, Subs, end_subs, more_subs, paren, unary, binary}
use Rattle.array_meaning.specs.declared.world.World.{World}
use Rattle.ws_types.specs.Operations.{is_inquiry}
use Rattle.array_meaning.specs.Stage1.{inquired, name_in, dimension_in}
use Rattle.array_meaning.specs.Forall.{Combination, name_value, element_of, without_element, inquiries, over, over_all, over_subs}
use Rattle.array_meaning.specs.Laws.{got, first_and, together, only_one, alone_over, ValuesCombinationByCombination}
use Rattle.array_meaning.proofs.PlaceByPlace.{then_maybe, together-there, got-each, each-on, in_rows, rows_of, column-on, no_columns, one_alone, pairs}

-- ---- what an expression has at one combination

abbrev mutual
  value_there : World → Expr → Combination → Option ℤ
  value_there w (Number n) c = Some (pos n)
  value_there w TooWide c = Some (pos 0)
  value_there w TooDeep c = Some (pos 0)
  value_there w (Truth b) c = Some (truth b)
  value_there w (Named x) c = Some (name_value w x c)
  value_there w (Part' x _ subs) c = then_maybe (subscripts_there w subs c) (λ is. got (element_of (state_of w.vars x) is))
  value_there w (Call' word _ es) c = if is_inquiry word then got (without_element (inquired word (state_of w.vars (name_in es)) (dimension_in es))) else then_maybe (values_there w es c) (λ r. got (call_value default_half word r))
  value_there w (Vector' _ es) c = Some (pos 0)
  value_there w (paren e) c = value_there w e c
  value_there w (unary op e) c = then_maybe (value_there w e c) (λ x. got (unary_value default_half op x))
  value_there w (binary op e f) c = then_maybe (first_and (value_there w e c) (first_and (value_there w f c) (Some []))) (λ r. got (pair_value op r))

  values_there : {m : _} → World → Exprs m → Combination → Option (List ℤ)
  values_there w end_exprs c = Some []
  values_there w (more_exprs e es) c = first_and (value_there w e c) (values_there w es c)

  subscripts_there : {m : _} → World → Subs m → Combination → Option (List ℤ)
  subscripts_there w end_subs c = Some []
  subscripts_there w (more_subs (sub.One e) ss) c = first_and (value_there w e c) (subscripts_there w ss c)
  subscripts_there w (more_subs (sub.Range' l u s) ss) c = subscripts_there w ss c

call-law : (b : Bool) (w : World) (word : CallWord) (answer : Exact) (g : Combination → Option (List ℤ)) (cs : List Combination) (r : Staged (List (List ℤ))) → got (in_rows cs r) ≡ together (map g cs) →
    got (if b then inquiries w answer cs else (r >>= call_map word cs)) ≡ together (map (λ c. if b then got answer else then_maybe (g c) (λ x. got (call_value default_half word x))) cs)
call-law true w word answer g cs r h = got-each (λ _. answer) cs
call-law false w word answer g cs r h = ap got (rows_of (call_value default_half word) cs r) ∙ each-on g (call_value default_half word) cs (in_rows cs r) h

mutual
  value-law : (w : World) (e : Expr) (cs : List Combination) → got (over w e cs) ≡ together (map (value_there w e) cs)
  value-law w (Number n) cs = sym (together-there (λ _. pos n) cs)
  value-law w TooWide cs = sym (together-there (λ _. pos 0) cs)
  value-law w TooDeep cs = sym (together-there (λ _. pos 0) cs)
  value-law w (Truth b) cs = sym (together-there (λ _. truth b) cs)
  value-law w (Named x) cs = sym (together-there (name_value w x) cs)
  value-law w (Part' x _ subs) cs =
      ap got (rows_of (element_of (state_of w.vars x)) cs (over_subs w subs cs)) ∙ each-on (subscripts_there w subs) (element_of (state_of w.vars x)) cs (in_rows cs (over_subs w subs cs)) (subscripts-law w subs cs)
  value-law w (Call' word _ es) cs =
      call-law (is_inquiry word) w word (without_element (inquired word (state_of w.vars (name_in es)) (dimension_in es))) (values_there w es) cs (over_all w es cs) (arguments-law w es cs)
  value-law w (Vector' _ es) cs = sym (together-there (λ _. pos 0) cs)
  value-law w (paren e) cs = value-law w e cs
  value-law w (unary op e) cs = each-on (value_there w e) (unary_value default_half op) cs (over w e cs) (value-law w e cs)
  value-law w (binary op e f) cs =
      ap got (pairs op cs (over w e cs) (over w f cs))
      ∙ each-on (λ c. first_and (value_there w e c) (first_and (value_there w f c) (Some []))) (pair_value op) cs _
      (column-on (value_there w e) (λ c. first_and (value_there w f c) (Some [])) cs (over w e cs) (over w f cs >>= (λ ys. Ok [] >>= (λ rest. Ok (ys ∷ rest)))) (value-law w e cs)
      (column-on (value_there w f) (λ c. Some []) cs (over w f cs) (Ok []) (value-law w f cs) (no_columns cs)))

  arguments-law : {m : _} (w : World) (es : Exprs m) (cs : List Combination) → got (in_rows cs (over_all w es cs)) ≡ together (map (values_there w es) cs)
  arguments-law w end_exprs cs = no_columns cs
  arguments-law w (more_exprs e es) cs = column-on (value_there w e) (values_there w es) cs (over w e cs) (over_all w es cs) (value-law w e cs) (arguments-law w es cs)

  subscripts-law : {m : _} (w : World) (ss : Subs m) (cs : List Combination) → got (in_rows cs (over_subs w ss cs)) ≡ together (map (subscripts_there w ss) cs)
  subscripts-law w end_subs cs = no_columns cs
  subscripts-law w (more_subs (sub.One e) ss) cs = column-on (value_there w e) (subscripts_there w ss) cs (over w e cs) (over_subs w ss cs) (value-law w e cs) (subscripts-law w ss cs)
  subscripts-law w (more_subs (sub.Range' l u s) ss) cs = subscripts-law w ss cs

-- ---- the law

alone-there : (w : World) (e : Expr) (c : Combination) → alone_over w e c ≡ value_there w e c
alone-there w e c = ap only_one (value-law w e (c ∷ [])) ∙ one_alone (value_there w e c)

pub law : ValuesCombinationByCombination
law w e cs = value-law w e cs ∙ ap (λ f. together (map f cs)) (fun_ext (λ c. sym (alone-there w e c)))

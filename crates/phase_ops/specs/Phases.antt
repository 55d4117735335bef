-- What phases do.
use Rattle.std.specs.Prelude.{ℕ, zero, suc, ◌+◌, ◌-◌, ◌*◌, ◌/◌, min, nat_lt, if◌then◌else◌, cond, List, [], ◌∷◌, ◌++◌, map, length, slice_index, slice_index_or, slice_set, Ok, Err, ℤ, pos, negsuc, ◌+ℤ◌, ◌*ℤ◌, int_div, int_rem}
use Rattle.std.specs.Int.{w64, cast_signed, cast_unsigned}
use Rattle.ws_base.specs.Numbers.{Exact, is_true, default_half}
use Rattle.phase_ops.specs.Scalars.{one_value, scalar_value}
use Rattle.phase_ops.specs.Partials.{part_of, merged, total}
use Rattle.ws_base.specs.declared.fault.FaultName.{FaultName}
use Rattle.ws_base.specs.Words.{fault_number}
use Rattle.ws_base.specs.declared.op.CallWord.{CallWord}
use Rattle.phase_ops.specs.declared.effect.Effect.{Effect}
use Rattle.phase_ops.specs.declared.effect.Effect.TheVariants.{Store, Least, Fault}
use Rattle.phase_ops.specs.declared.effect.Turn.{Turn}
use Rattle.phase_ops.specs.declared.effect.Turn.TheVariants.{Next, Shut, Fails, Does}
use Rattle.phase_ops.specs.declared.phase.Source.{Source}
use Rattle.phase_ops.specs.declared.phase.Source.TheVariants.{Fixed, Cell}
use Rattle.phase_ops.specs.declared.phase.Term.{Term}
use Rattle.phase_ops.specs.declared.phase.Address.{Address}
use Rattle.phase_ops.specs.declared.phase.Micro.{Micro}
use Rattle.phase_ops.specs.declared.phase.Micro.TheVariants as micro
use Rattle.phase_ops.specs.declared.phase.Act.{Act}
use Rattle.phase_ops.specs.declared.phase.Phase.{Phase}
use Rattle.phase_ops.specs.declared.phase.Phase.TheVariants.{Set, Loop, Part, Join}

-- ---- cells. A cell is a word of 64 bits and holds a number as two's complement.

abbrev pub Cells : Type 0
Cells = List ℕ

abbrev pub cell_value : Cells → ℕ → ℤ
cell_value m c = cast_signed w64 (slice_index m c)

abbrev pub word : ℤ → ℕ
word z = cast_unsigned w64 z

abbrev pub source : Cells → Source → ℤ
source m (Fixed z) = z
source m (Cell c) = cell_value m c

abbrev pub source_cells : Source → List ℕ
source_cells (Fixed z) = []
source_cells (Cell c) = c ∷ []

abbrev pub register : List ℤ → ℕ → ℤ
register regs r = slice_index_or regs r (pos 0)

abbrev pub terms : Cells → List ℤ → List Term → ℤ
terms m regs [] = pos 0
terms m regs (t ∷ ts) = register regs t.reg *ℤ source m t.step +ℤ terms m regs ts

-- the number of a cell; a negative number names none
abbrev pub cell_of : ℤ → ℕ
cell_of (pos n) = n
cell_of (negsuc n) = 18446744073709551615

abbrev pub address : Cells → List ℤ → Address → ℕ
address m regs a = cell_of (source m a.base +ℤ terms m regs a.terms)

abbrev pub term_cells : List Term → List ℕ
term_cells [] = []
term_cells (t ∷ ts) = source_cells t.step ++ term_cells ts

abbrev pub address_cells : Address → List ℕ
address_cells a = source_cells a.base ++ term_cells a.terms

-- ---- one op

-- the cells that it loads, in order
abbrev pub looks : Cells → List ℤ → Micro → List ℕ
looks m regs (micro.Digit r by modulus) = source_cells by ++ source_cells modulus
looks m regs (micro.Load a) = address_cells a ++ address m regs a ∷ []
looks m regs (micro.Store a r) = address_cells a
looks m regs (micro.Least a r) = address_cells a
looks m regs _ = []

-- what it divides by
abbrev pub divisors : Cells → Micro → List ℤ
divisors m (micro.Digit r by modulus) = source m by ∷ source m modulus ∷ []
divisors m _ = []

abbrev pub turn_of : Exact → Turn
turn_of (Ok z) = Next z
turn_of (Err n) = Fails n

-- what it gives at the iteration i
abbrev pub turn : ℕ → Cells → List ℤ → Micro → Turn
turn i m regs (micro.Fixed z) = Next z
turn i m regs micro.Position = Next (pos i)
turn i m regs (micro.Digit r by modulus) = Next (int_rem (int_div (register regs r) (source m by)) (source m modulus))
turn i m regs (micro.Load a) = Next (cell_value m (address m regs a))
turn i m regs (micro.Unary o r) = turn_of (one_value default_half o (register regs r))
turn i m regs (micro.Binary o r s) = turn_of (scalar_value default_half o (register regs r) (register regs s))
turn i m regs (micro.Select r s t) = Next (if is_true (register regs r) then register regs s else register regs t)
turn i m regs (micro.Gate r) = if is_true (register regs r) then Next (pos 0) else Shut
turn i m regs (micro.FailIf n r) = if is_true (register regs r) then Fails n else Next (pos 0)
turn i m regs (micro.Store a r) = Does (Store (address m regs a) (word (register regs r)))
turn i m regs (micro.Least a r) = Does (Least (address m regs a) (word (register regs r)))

-- ---- laying effects over cells

abbrev pub over : Effect → Cells → Cells
over (Store c v) m = slice_set m c v
over (Least c v) m = slice_set m c (min (slice_index m c) v)
over (Fault k) m = m

-- ---- keys

abbrev pub key_of : ℕ → ℕ → ℕ → FaultName → ℕ
key_of act op element n = ((act * 1048576 + op) * 1048576 + element) * 16 + fault_number n

-- where an op stands: its act, the element that the act reports, and the iteration
pub record Spot : Type 0 where
  pub act : ℕ
  pub element : ℕ
  pub iteration : ℕ

-- ---- what happens in a strand, in order

pub data Event : Type 0 where
  Loads : ℕ → Event
  Divides : ℤ → Event
  Makes : Effect → Event
  -- the value of an iteration
  Gives : ℤ → Event

abbrev pub plain : List ℕ → List ℤ → List Event → List Event
plain cs ds es = map Loads cs ++ map Divides ds ++ es

-- what follows an op: `next` goes on with the next register, `rest` comes after the act
abbrev pub went : ℕ → Cells → (Cells → ℤ → List Event) → (Cells → List ℤ → List Event) → Turn → List Event
went key m next rest (Next z) = next m z
went key m next rest Shut = rest m []
went key m next rest (Fails n) = Makes (Fault (key + fault_number n)) ∷ []
went key m next rest (Does e) = Makes e ∷ next (over e m) (pos 0)

-- The ops that are left of an act, with the registers so far. What comes after the act gets the registers, and none where a gate ended it.
abbrev pub ops_events : Spot → List Micro → Cells → List ℤ → (Cells → List ℤ → List Event) → List Event
ops_events s [] m regs rest = rest m regs
ops_events s (op ∷ ops) m regs rest =
    plain (looks m regs op) (divisors m op)
    (went (((s.act * 1048576 + length regs) * 1048576 + s.element) * 16) m (λ m' z. ops_events s ops m' (regs ++ z ∷ []) rest) rest (turn s.iteration m regs op))

abbrev pub spot : ℕ → Act → ℕ → Spot
spot k a i = record { act = k; element = cond a.whole 0 (suc i); iteration = i }

-- acts from the number k on, at the iteration i
abbrev pub acts_events : ℕ → ℕ → List Act → Cells → List Event
acts_events i k [] m = []
acts_events i k (a ∷ more) m = ops_events (spot k a i) a.ops m [] (λ m' regs. acts_events i (suc k) more m')

-- an op of a Part, where a Store or Least has no effect
abbrev pub calm : Micro → Micro
calm (micro.Store a r) = micro.Fixed (pos 0)
calm (micro.Least a r) = micro.Fixed (pos 0)
calm op = op

abbrev pub last_event : List ℤ → List Event
last_event [] = []
last_event (z ∷ []) = Gives z ∷ []
last_event (z ∷ y ∷ zs) = last_event (y ∷ zs)

abbrev pub value_events : Act → Cells → ℕ → List Event
value_events a m i = ops_events (spot 0 a i) (map calm a.ops) m [] (λ m' regs. last_event regs)

-- f of each number from `from` on
abbrev pub each_from : {A : Type 0} → (ℕ → List A) → ℕ → ℕ → List A
each_from f from zero = []
each_from f from (suc n) = f from ++ each_from f (suc from) n

-- ---- what events tell

abbrev pub loads : List Event → List ℕ
loads [] = []
loads (Loads c ∷ es) = c ∷ loads es
loads (_ ∷ es) = loads es

abbrev pub makes : List Event → List Effect
makes [] = []
makes (Makes e ∷ es) = e ∷ makes es
makes (_ ∷ es) = makes es

abbrev pub gives : List Event → List ℤ
gives [] = []
gives (Gives z ∷ es) = z ∷ gives es
gives (_ ∷ es) = gives es

abbrev pub divides : List Event → List ℤ
divides [] = []
divides (Divides z ∷ es) = z ∷ divides es
divides (_ ∷ es) = divides es

-- ---- the least key

-- no key, the greatest number of a word
abbrev pub none_yet : ℕ
none_yet = 18446744073709551615

abbrev pub least_key : List Effect → ℕ
least_key [] = none_yet
least_key (Fault k ∷ es) = min k (least_key es)
least_key (Store c v ∷ es) = least_key es
least_key (Least c v ∷ es) = least_key es

-- ---- phases

abbrev pub natural : ℤ → ℕ
natural (pos n) = n
natural (negsuc n) = 0

-- the iterations; a Set and a Join count as one
abbrev pub iterations : Phase → Cells → ℕ
iterations (Set l b acts) m = 1
iterations (Loop l b count acts) m = natural (source m count)
iterations (Part l count act k t f) m = natural (source m count)
iterations (Join l count k t f s) m = 1

-- the least number of units of at most `chunk` iterations
abbrev pub pieces : ℕ → ℕ → ℕ
pieces n chunk = (n + (chunk - 1)) / chunk

abbrev pub units : Phase → Cells → ℕ → ℕ
units (Set l b acts) m chunk = 1
units (Loop l b count acts) m chunk = pieces (natural (source m count)) chunk
units (Part l count act k t f) m chunk = pieces (natural (source m count)) chunk
units (Join l count k t f s) m chunk = 1

-- the cells that are read before a unit is claimed
abbrev pub parameter : Phase → List ℕ
parameter (Set l b acts) = []
parameter (Loop l b count acts) = source_cells count
parameter (Part l count act k t f) = source_cells count
parameter (Join l count k t f s) = source_cells count

-- where the unit u begins, and how many of n iterations it has
abbrev pub unit_size : ℕ → ℕ → ℕ → ℕ
unit_size n chunk u = min chunk (n - u * chunk)

abbrev pub strands : Phase → Cells → ℕ → ℕ
strands (Set l b acts) m chunk = 1
strands (Loop l b count acts) m chunk = natural (source m count)
strands (Part l count act k t f) m chunk = pieces (natural (source m count)) chunk
strands (Join l count k t f s) m chunk = 1

-- the partials that a Join merges
abbrev pub partial_cells : ℕ → ℕ → List ℕ
partial_cells first n = each_from (λ c. c ∷ []) first n

abbrev pub joined : ℕ → Exact → Effect
joined slot (Ok z) = Store slot (word z)
joined slot (Err n) = Fault (fault_number n)

-- what a strand goes through; of a Part, what its iterations do
abbrev pub strand_events : Phase → Cells → ℕ → ℕ → List Event
strand_events (Set l b acts) m chunk s = acts_events 0 0 acts m
strand_events (Loop l b count acts) m chunk s = acts_events s 0 acts m
strand_events (Part l count act k t f) m chunk s = each_from (value_events act m) (s * chunk) (unit_size (natural (source m count)) chunk s)
strand_events (Join l count k t f slot) m chunk s =
    let cells = partial_cells f (pieces (natural (source m count)) chunk) in
    map Loads cells ++ Makes (joined slot (total default_half k (merged default_half k (map (cell_value m) cells)))) ∷ []

-- the fault of the least key, or the partial of the values
abbrev pub summed : CallWord → ℕ → List Event → List Effect
summed k cell es = if nat_lt (least_key (makes es)) none_yet then Fault (least_key (makes es)) ∷ [] else Store cell (word (merged default_half k (map (part_of default_half k) (gives es)))) ∷ []

abbrev pub strand_effects : Phase → Cells → ℕ → ℕ → List Effect
strand_effects (Part l count act k t f) m chunk s = summed k (f + s) (strand_events (Part l count act k t f) m chunk s)
strand_effects p m chunk s = makes (strand_events p m chunk s)

-- the cells that a strand loads
abbrev pub reads : Phase → Cells → ℕ → ℕ → List ℕ
reads p m chunk s = loads (strand_events p m chunk s)

-- the strands of the unit u: the first, and how many
abbrev pub first_strand : Phase → ℕ → ℕ → ℕ
first_strand (Loop l b count acts) chunk u = u * chunk
first_strand p chunk u = u

abbrev pub strand_count : Phase → Cells → ℕ → ℕ → ℕ
strand_count (Loop l b count acts) m chunk u = unit_size (natural (source m count)) chunk u
strand_count p m chunk u = 1

abbrev pub effects : Phase → Cells → ℕ → ℕ → List Effect
effects p m chunk u = each_from (strand_effects p m chunk) (first_strand p chunk u) (strand_count p m chunk u)

abbrev pub unit_reads : Phase → Cells → ℕ → ℕ → List ℕ
unit_reads p m chunk u = each_from (reads p m chunk) (first_strand p chunk u) (strand_count p m chunk u)

abbrev pub lay : Cells → List Effect → Cells
lay m [] = m
lay m (e ∷ es) = lay (over e m) es

-- of all units, in order
abbrev pub phase_effects : Phase → Cells → ℕ → List Effect
phase_effects p m chunk = each_from (effects p m chunk) 0 (units p m chunk)

abbrev pub after_phase : Phase → Cells → ℕ → Cells
after_phase p m chunk = lay m (phase_effects p m chunk)

abbrev pub key : Phase → Cells → ℕ → ℕ
key p m chunk = least_key (phase_effects p m chunk)

-- the memory after the first t phases
abbrev pub after : List Phase → Cells → ℕ → ℕ → Cells
after ps m chunk zero = m
after [] m chunk (suc t) = m
after (p ∷ ps) m chunk (suc t) = after ps (after_phase p m chunk) chunk t

pub data Outcome : Type 0 where
  Finished : Cells → Outcome
  -- the phase, from 0, and its key
  Failed : ℕ → ℕ → Outcome

abbrev pub later : Outcome → Outcome
later (Finished m) = Finished m
later (Failed t k) = Failed (suc t) k

abbrev pub result : List Phase → Cells → ℕ → Outcome
result [] m chunk = Finished m
result (p ∷ ps) m chunk = if nat_lt (key p m chunk) none_yet then Failed 0 (key p m chunk) else later (result ps (after_phase p m chunk) chunk)

-- Which files a request reads, and what may come of them.
use Rattle.std.specs.Prelude.{◌≡◌, ◌⊎◌, ◌<◌, ◌≤◌, ⊤, ℕ, List, length, Option, Some, IfSome}
use Rattle.ws_io.specs.Causes.{Rose}
use Rattle.ws_io.specs.declared.whole.ReadEnd.{ReadEnd}
use Rattle.ws_io.specs.declared.whole.ReadEnd.TheVariants as read
use Rattle.ws_driver.specs.declared.answer.Answer.{Answer}
use Rattle.ws_driver.specs.declared.answer.Status.TheVariants as statuses
use Rattle.ws_driver.specs.declared.reading.TheConstants.{SOURCE_LIMIT, DATA_LIMIT}
use Rattle.ws_driver.specs.Request.{Asked, data_of}
use Rattle.ws_driver.specs.Sources.{IsAccepted}

-- the data, and the most bytes that it may have
abbrev pub ReadsInput : Option (List ℕ) → List ℕ → ℕ → Type 0
ReadsInput input name limit = (input ≡ Some name) × (limit ≡ DATA_LIMIT)

-- a source that is run: it is within its limit, and accepted
abbrev pub IsRunnable : List ℕ → Type 0
IsRunnable bytes = (length bytes ≤ SOURCE_LIMIT) × IsAccepted bytes

-- a file that is read, and the most bytes that it may have: the source, and the data of a run where the source, if its file tells it, is run
abbrev pub Reads : (List ℕ → Option (List ℕ)) → Asked → List ℕ → ℕ → Type 0
Reads told r name limit = ((r.source ≡ name) × (limit ≡ SOURCE_LIMIT)) ⊎ (ReadsInput (data_of r) name limit × IfSome (told r.source) IsRunnable)

-- ---- of the files that are read

-- one is longer than its limit, where it tells its bytes
abbrev pub SomeTooLong : (List ℕ → Option (List ℕ)) → (List ℕ → ℕ → Type 0) → Type 0
SomeTooLong told reads = (name : List ℕ) × (limit : ℕ) × reads name limit × IfSome (told name) (λ file. limit < length file)

-- the count of faults of one rose
abbrev pub SomeRose : (List ℕ → ℕ) → (List ℕ → ℕ) → (List ℕ → ℕ → Type 0) → Type 0
SomeRose before now reads = (name : List ℕ) × (limit : ℕ) × reads name limit × Rose (before name) (now name)

-- each tells its bytes, and its count did not rise
pub record IsCalm (told : List ℕ → Option (List ℕ)) (before now : List ℕ → ℕ) (reads : List ℕ → ℕ → Type 0) : Type 0 where
  pub tells : (name : List ℕ) (limit : ℕ) → reads name limit → (file : List ℕ) × (told name ≡ Some file)
  pub still : (name : List ℕ) (limit : ℕ) → reads name limit → ¬ Rose (before name) (now name)

-- none is longer than its limit
abbrev pub AllWithin : (List ℕ → Option (List ℕ)) → (List ℕ → ℕ → Type 0) → Type 0
AllWithin told reads = (name : List ℕ) (limit : ℕ) → reads name limit → IfSome (told name) (λ file. length file ≤ limit)

-- ---- why one was not read whole

abbrev pub IsUnread : (List ℕ → Option (List ℕ)) → (List ℕ → ℕ) → (List ℕ → ℕ) → (List ℕ → ℕ → Type 0) → ReadEnd → Type 0
IsUnread told before now reads read.Failed = SomeRose before now reads
IsUnread told before now reads read.TooLong = SomeTooLong told reads
IsUnread told before now reads read.Memory = ⊤

-- the answer then
abbrev pub unread_answer : ReadEnd → Answer
unread_answer read.Failed = record { status = statuses.ReadFault; regions = 0 }
unread_answer read.TooLong = record { status = statuses.TooLong; regions = 0 }
unread_answer read.Memory = record { status = statuses.Memory; regions = 0 }

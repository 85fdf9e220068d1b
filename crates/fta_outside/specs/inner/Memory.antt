-- Files and sinks in memory, which tell everything.
use Rattle.std.specs.Prelude.{ℕ, Bool, true, false, ◌+◌, ◌-◌, ◌^◌, List, [], ◌∷◌, ◌++◌, length, Option, Some, None, is_none, if◌then◌else◌, ◌==◌, ◌||◌, ◌&&◌, nat_eq, nat_lt, min}
use Rattle.std.specs.List.{list_any}
use Rattle.fta_outside.specs.declared.outside.FileError.{FileError}
use Rattle.fta_outside.specs.declared.outside.FileError.TheVariants.{Failed, Memory}
use Rattle.plain_values.specs.Name.{is_same_text}

-- a file: its name, and what it contains
abbrev pub File : Type 0
File = List ℕ × List ℕ

-- what the first file of the name contains
abbrev pub contents_of : List File → List ℕ → Option (List ℕ)
contents_of [] name = None
contents_of (file ∷ files) name = if is_same_text file.0 name then Some file.1 else contents_of files name

-- a number more, up to the last value of a counter
abbrev pub one_more : ℕ → ℕ
one_more n = min (n + 1) (2 ^ 64 - 1)

-- Files in memory: the numbers of the calls that fail, how many calls there were, and how many of them failed.
pub record Stored : Type 0 where
  pub files : List File
  pub failing : List ℕ
  pub calls : ℕ
  pub faults : ℕ

-- A read fails exactly if its call is listed or no file has the name.
abbrev pub read_fails : Stored → List ℕ → Bool
read_fails stored name = list_any (λ call. nat_eq call stored.calls) stored.failing || is_none (contents_of stored.files name)

-- whether it is the error of a read that failed
abbrev pub is_failed : FileError → Bool
is_failed Failed = true
is_failed Memory = false

-- the files after a read, which failed or did not
abbrev pub after_read : Stored → Bool → Stored
after_read stored failed = record stored { calls = one_more stored.calls; faults = if failed then one_more stored.faults else stored.faults }

-- A sink in memory: what it took, the numbers of the calls that fail, how many bytes it takes in one write and in all,
-- how many calls there were, and how many of them failed.
pub record Taken : Type 0 where
  pub bytes : List ℕ
  pub failing : List ℕ
  pub piece : ℕ
  pub room : ℕ
  pub calls : ℕ
  pub faults : ℕ

-- how many bytes a write of so many takes
abbrev pub count_of : Taken → ℕ → ℕ
count_of taken len = min (min len taken.piece) (taken.room - length taken.bytes)

-- A write fails exactly if its call is listed, or if it can take no byte of a piece that has one.
abbrev pub write_fails : Taken → ℕ → Bool
write_fails taken len = list_any (λ call. nat_eq call taken.calls) taken.failing || (nat_lt 0 len && (count_of taken len == 0))

-- the sink after a write that failed
abbrev pub after_failure : Taken → Taken
after_failure taken = record taken { calls = one_more taken.calls; faults = one_more taken.faults }

-- the sink after a write that took these bytes
abbrev pub after_write : Taken → List ℕ → Taken
after_write taken bytes = record taken { calls = one_more taken.calls; bytes = taken.bytes ++ bytes }

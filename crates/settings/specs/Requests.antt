-- Document 02, Q-5: what the request asks of the two readers, over any calls, in bytes of the file; and of the writer beside them.
-- Assumes nothing.
use Rattle.std.specs.Prelude.{◌≡◌, true, cond, List, [], ◌∷◌, ◌++◌, ◌↔◌, ◌⊎◌, ℕ, ◌+◌, ◌*◌, ◌-◌, ◌≤◌, ◌<◌, ℤ, pos, negsuc, length, get_or, take, drop}
use Rattle.std.specs.Int.Signed.{lt_z}
use Rattle.numbers.specs.Bits.{signed32}
use Rattle.numbers.specs.Bytes.{Bytes, bytes, number}
use Rattle.numbers.specs.Tests.{between, Lowest, NoRow}
use Rattle.settings.specs.Layout.{trailer, edition_of, file_of}
use Rattle.settings.specs.Sets.{settings, names_in}
use Rattle.settings.specs.Calls.{read_faults, shown, shown_by, chosen_pairs, write_faults, written, written_as, written_into}
use Rattle.settings.specs.declared.Pair.{Pair}
use Rattle.settings.specs.declared.Settings.{Settings}
use Rattle.settings.specs.declared.Chosen.{Chosen}
use Rattle.settings.specs.declared.Shown.{Shown}
use Rattle.settings.specs.declared.Written.{Written}

-- A reader is given a file and the values of the given state. A writer is given a set, the names that are chosen and a buffer; it gives its answer, and the
-- buffer as the call leaves it.
abbrev pub Reader : Type 0
Reader = List ℕ → Settings → Shown

pub record Writing : Type 0 where
  pub answer : Written
  pub file : List ℕ

abbrev pub Writer : Type 0
Writer = Settings → Chosen → List ℕ → Writing

-- The four names by their numbers as variables, and what a set has under a name.
abbrev pub IsName : ℕ → Type 0
IsName v = (6 ≤ v) × (v ≤ 9)

abbrev pub value_of : Settings → ℕ → ℤ
value_of g v = get_or (g.a ∷ g.d ∷ g.vi ∷ g.vm ∷ []) (v - 6) (pos 0)

-- The file is accepted.
abbrev pub Accepts : Reader → List ℕ → Settings → Type 0
Accepts read file given = (read file given).number ≡ 0

-- Q-5 1: an edition 1 file has these four bytes at the place of the name.
pub record ByPlace (file : List ℕ) (v : ℕ) (four : List ℕ) : Type 0 where
  pub edition : edition_of file ≡ 1
  pub stands : take 4 (drop (4 * (v - 6)) file) ≡ four

-- Q-5 2: an edition 2 file has a pair, in front of its trailer, of the name's number, zeros and these four bytes.
pub record ByPair (file : List ℕ) (v : ℕ) (four : List ℕ) : Type 0 where
  pub edition : edition_of file ≡ 2
  pub place : ℕ
  pub inside : 8 * place + 16 ≤ length file
  pub stands : take 8 (drop (8 * place) file) ≡ bytes 2 v ++ (bytes 2 0 ++ four)

-- Q-5 6: a file of either edition has these four bytes for the name.
abbrev pub WrittenUnder : List ℕ → ℕ → List ℕ → Type 0
WrittenUnder file v four = (length four ≡ 4) × (ByPlace file v four ⊎ ByPair file v four)

-- Q-5 1, Q-5 3, Q-5 4: the bytes are a file of edition 1: sixteen, and its trailer.
pub record IsFirst (file : List ℕ) : Type 0 where
  pub values : List ℕ
  pub sixteen : length values ≡ 16
  pub all : file ≡ values ++ trailer 1 24

-- Q-5 2: pairs with the numbers of names, which rise strictly, zeros, and values of four bytes.
abbrev pub no_pair : Pair
no_pair = record { value = pos 0; number = 0; zeros = 0 }

pub record ArePairs (ps : List Pair) : Type 0 where
  pub named : (i : ℕ) → i < length ps → IsName (get_or ps i no_pair).number
  pub zeros : (i : ℕ) → i < length ps → (get_or ps i no_pair).zeros ≡ 0
  pub rising : (i j : ℕ) → i < j → j < length ps → (get_or ps i no_pair).number < (get_or ps j no_pair).number
  pub values : (i : ℕ) → i < length ps → between (negsuc 2147483647) (pos 2147483647) (get_or ps i no_pair).value ≡ true

-- Q-5 2 to 4: the bytes are the file of such pairs.
pub record IsSecond (file : List ℕ) : Type 0 where
  pub pairs : List Pair
  pub good : ArePairs pairs
  pub all : file ≡ file_of pairs

-- Q-5 5: a file of an edition from 1 to `last`.
abbrev pub IsFile : ℕ → List ℕ → Type 0
IsFile last file = IsFirst file ⊎ ((2 ≤ last) × IsSecond file)

-- Q-5 7: the ranges of the four values, and VI below VM.
pub record KeepsRanges (g : Settings) : Type 0 where
  pub a : between (pos 1) (pos 2147483647) g.a ≡ true
  pub d : between (pos 1) (pos 2147483647) g.d ≡ true
  pub vi : between (pos 1) (pos 2560000) g.vi ≡ true
  pub vm : between (pos 1) (pos 2560000) g.vm ≡ true
  pub below : lt_z g.vi g.vm ≡ true

-- Q-5 1 to 8 of a reader that knows the editions 1 to `last`.
pub record ReadsUpTo (last : ℕ) (read : Reader) : Type 0 where
  -- Q-5 8: 41 and up exactly if that row of the table holds and no lower one; 0 exactly if none does.
  pub refused : (file : List ℕ) (given : Settings) (k : ℕ) → ((read file given).number ≡ 41 + k) ↔ Lowest (read_faults last file given) k
  pub none : (file : List ℕ) (given : Settings) → ((read file given).number ≡ 0) ↔ NoRow (read_faults last file given)
  -- Q-5 1 to 5: bytes are accepted, or refused for a value out of range, exactly if they are such a file.
  pub laid_out : (file : List ℕ) (given : Settings) → Bytes file → (((read file given).number ≡ 0) ⊎ ((read file given).number ≡ 44)) ↔ IsFile last file
  -- Q-5 7: nothing of a refused file is shown.
  pub nothing : (file : List ℕ) (given : Settings) → (Accepts read file given → ⊥) → (read file given).settings ≡ given
  -- Q-5 6: each name shows a value that the file has for just this name; or the file has none for it, and the given one is shown.
  pub shows : (file : List ℕ) (given : Settings) → Bytes file → Accepts read file given → (v : ℕ) → IsName v
      → ((four : List ℕ) × WrittenUnder file v four × (value_of (read file given).settings v ≡ signed32 (number four)))
      ⊎ (((four : List ℕ) → WrittenUnder file v four → ⊥) × (value_of (read file given).settings v ≡ value_of given v))
  -- Q-5 6: and a value that the file has for a name is what that name shows.
  pub takes : (file : List ℕ) (given : Settings) → Accepts read file given → (v : ℕ) → IsName v
      → (four : List ℕ) → WrittenUnder file v four → value_of (read file given).settings v ≡ signed32 (number four)
  -- Q-5 7: the finished set keeps the ranges.
  pub keeps : (file : List ℕ) (given : Settings) → Accepts read file given → KeepsRanges (read file given).settings
  -- Where a file has VI, its value is never shown as VM.
  pub never_vm : (file : List ℕ) (given : Settings) → Accepts read file given
      → (four : List ℕ) → WrittenUnder file 8 four → (read file given).settings.vm ≡ signed32 (number four) → ⊥

-- Q-5 6: two files, of whatever editions, that have the same four bytes under a name show the same under it, whatever else they or the given states hold.
abbrev pub FieldAlone : Reader → Reader → Type 0
FieldAlone read other = (file more : List ℕ) (given before : Settings) → Accepts read file given → Accepts other more before
    → (v : ℕ) → IsName v → (four : List ℕ) → WrittenUnder file v four → WrittenUnder more v four
    → value_of (read file given).settings v ≡ value_of (other more before).settings v

-- A set with the values of another under the chosen names.
unfoldable pub merged : Settings → Chosen → Settings → Settings
merged g which given =
    settings (cond which.a g.a given.a) (cond which.d g.d given.d) (cond which.vi g.vi given.vi) (cond which.vm g.vm given.vm)

abbrev pub all_four : Chosen
all_four = record { a = true; d = true; vi = true; vm = true }

-- What the writer wrote.
abbrev pub file_in : Writing → List ℕ
file_in w = take w.answer.length w.file

-- The writer.
pub record WritesFiles (write : Writer) : Type 0 where
  -- 44 and 45 exactly if that row of the table holds and no lower one; 0 exactly if none does.
  pub refused : (g : Settings) (which : Chosen) (old : List ℕ) (k : ℕ) → ((write g which old).answer.number ≡ 44 + k) ↔ Lowest (write_faults g which (length old)) k
  pub none : (g : Settings) (which : Chosen) (old : List ℕ) → ((write g which old).answer.number ≡ 0) ↔ NoRow (write_faults g which (length old))
  -- A refused call tells no length, and writes nothing.
  pub length_refused : (g : Settings) (which : Chosen) (old : List ℕ) → ((write g which old).answer.number ≡ 0 → ⊥) → (write g which old).answer.length ≡ 0
  pub file_refused : (g : Settings) (which : Chosen) (old : List ℕ) → ((write g which old).answer.number ≡ 0 → ⊥) → (write g which old).file ≡ old
  -- Else the buffer holds the file of the chosen pairs, and behind it what stood there.
  pub laid_out : (g : Settings) (which : Chosen) (old : List ℕ) → (write g which old).answer.number ≡ 0
      → write g which old
      ≡ record { answer = written 0 (length (file_of (chosen_pairs g which))); file = file_of (chosen_pairs g which) ++ drop (length (file_of (chosen_pairs g which))) old }

-- Q-5, over any two readers and any writer.
pub record Request5 (read first : Reader) (write : Writer) : Type 0 where
  -- Q-5 5: two editions for the one, the first alone for the other.
  pub reading : ReadsUpTo 2 read
  pub keeping : ReadsUpTo 1 first
  pub writing : WritesFiles write
  -- Q-5 5: the kept reader is the new one on edition 1 files, and gives 42 for every edition 2 file that is no shorter and no longer than a file.
  pub edition_1 : (file : List ℕ) (given : Settings) → edition_of file ≡ 1 → first file given ≡ read file given
  pub edition_2 : (file : List ℕ) (given : Settings) → edition_of file ≡ 2 → 8 ≤ length file → length file ≤ 40 → first file given ≡ shown 42 given
  -- Q-5 6: of the new reader, of the kept one, and of the two.
  pub alone : FieldAlone read read
  pub alone_kept : FieldAlone first first
  pub alone_both : FieldAlone read first
  -- The edition 1 file of four values, in bytes, and the edition 2 file of the four pairs with them read alike.
  pub alike : (a d vi vm : List ℕ) (given : Settings) → length a ≡ 4 → length d ≡ 4 → length vi ≡ 4 → length vm ≡ 4
      → read (a ++ (d ++ (vi ++ (vm ++ trailer 1 24)))) given
      ≡ read (bytes 2 6 ++ (bytes 2 0 ++ (a ++ (bytes 2 7 ++ (bytes 2 0 ++ (d ++ (bytes 2 8 ++ (bytes 2 0 ++ (vi ++ (bytes 2 9 ++ (bytes 2 0 ++ (vm ++ trailer 2 40)))))))))))) given
  -- What is written is read: accepted exactly if the finished set keeps the ranges, and then shown, the chosen names as written and the rest as given; else 44.
  pub read_back : (g : Settings) (which : Chosen) (old : List ℕ) (given : Settings) → (write g which old).answer.number ≡ 0
      → (Accepts read (file_in (write g which old)) given ↔ KeepsRanges (merged g which given))
      × (Accepts read (file_in (write g which old)) given → read (file_in (write g which old)) given ≡ shown 0 (merged g which given))
      × ((Accepts read (file_in (write g which old)) given → ⊥) → read (file_in (write g which old)) given ≡ shown 44 given)
  -- All four names of a good set, for any given state; the kept reader refuses what is written.
  pub all_back : (g : Settings) (old : List ℕ) (given : Settings) → KeepsRanges g → 40 ≤ length old
      → ((write g all_four old).answer ≡ written 0 40) × (read (file_in (write g all_four old)) given ≡ shown 0 g)
  pub kept_back : (g : Settings) (which : Chosen) (old : List ℕ) (given : Settings) → (write g which old).answer.number ≡ 0
      → first (file_in (write g which old)) given ≡ shown 42 given
  -- From old to new: what a file of either edition shows, written under its names, is accepted, and reads as the file itself over any state; an edition 2 file
  -- comes out equal.
  pub renewed : (file : List ℕ) (given : Settings) (old : List ℕ) (state : Settings) → Bytes file → Accepts read file given → 40 ≤ length old
      → ((write (read file given).settings (names_in file) old).answer.number ≡ 0)
      × (read (file_in (write (read file given).settings (names_in file) old)) state ≡ read file state)
      × (edition_of file ≡ 2 → file_in (write (read file given).settings (names_in file) old) ≡ file)

-- The calls of this crate, as their promises (Calls.antt) give them.
abbrev pub our_read : Reader
our_read file given = shown_by 2 file given

abbrev pub our_first : Reader
our_first file given = shown_by 1 file given

abbrev pub our_write : Writer
our_write g which old = record { answer = written_as g which (length old); file = written_into g which old }

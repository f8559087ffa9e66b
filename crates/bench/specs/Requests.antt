-- Document 02: what a request asks of its calls, over any calls, as the demands of Demands.antt.
-- Assumes nothing.
use Rattle.std.specs.Prelude.{◌≡◌, Bool, true, false, ◌||◌, List, [], ◌∷◌, ◌++◌, ◌↔◌, ◌⊎◌, ℕ, ◌+◌, ◌≤◌, ◌<◌, T, ℤ, pos, length, take, drop, get_or}
use Rattle.numbers.specs.Bytes.{Bytes, ascii}
use Rattle.numbers.specs.Tests.{Lowest, NoRow, Each, any_of, between, eq_list, eq_z}
use Rattle.program.specs.Names.{Name, two_characters, reserved, newly_reserved, free_name}
use Rattle.program.specs.Variables.{in_range, literals}
use Rattle.program.specs.declared.Operand.TheVariants as O
use Rattle.program.specs.Statements.{Value, Literal, Variable, Statement, Divided, SetWith, MA, operands, is_hold}
use Rattle.program.specs.Cells.{same, statement_of}
use Rattle.text.specs.Faults.{overlong, faults_of, said, how_many, makes_cell, makes_variable, place_of, number_of}
use Rattle.refusals.specs.Lines.{DeclaredAt, UsedAt}
use Rattle.image.specs.Layout.{cell_count, label_count, variable_count, cell_at}
use Rattle.image.specs.Check.{image_faults, record_name, checked}
use Rattle.translation.specs.Images.{accepted}
use Rattle.translation.specs.Places.{line_at}
use Rattle.effects.specs.Effects.{read}
use Rattle.effects.specs.Results.{results, OverOrUnder, Neither}
use Rattle.events.specs.declared.Event.{Event}
use Rattle.events.specs.Events.{good_event, bad_events}
use Rattle.machine.specs.declared.Machine.{Machine}
use Rattle.machine.specs.Turn.{turn}
use Rattle.machine.specs.Happens.{happens}
use Rattle.running.specs.Courses.{cell_acts, image_trace, image_course}
use Rattle.rules.specs.Rules.{Ruled}
use Rattle.rules.specs.Flags.{Flags, FlagsIn}
use Rattle.rules.specs.Handlers.{TurnHandlers, HandlersIn, Origins}
use Rattle.printing.specs.Listing.{listing, plain}
use Rattle.bench.specs.Translating.{answered}
use Rattle.bench.specs.Listings.{list_answered, listed_as, listed_into}
use Rattle.bench.specs.Following.{line_acts, text_trace, text_course}
use Rattle.bench.specs.Demands.{Translate, Check, Run, Demand1, Demand2, Demand3, given}
use Rattle.bench.specs.Answers.{no_place}
use Rattle.bench.specs.declared.Listed.{Listed}
use Rattle.bench.specs.declared.StatePlace.{StatePlace}
use Rattle.bench.specs.declared.State.{State}

-- What listing gives: the answer, and the text buffer as the call leaves it. It is given an image and a buffer.
pub record Listing : Type 0 where
  pub answer : Listed
  pub text : List ℕ

abbrev pub ListImage : Type 0
ListImage = List ℕ → List ℕ → Listing

-- The bytes of the text that listing gives: as many of the buffer's first as the answer says.
abbrev pub told : Listing → List ℕ
told l = take l.answer.length l.text

-- Q-1 4 for one image and one text buffer.
pub record ListRefused (s buffer : List ℕ) (l : Listing) : Type 0 where
  -- 21 to 25 exactly as for checking.
  pub image_refused : (k : ℕ) → k < 5 → (l.answer.number ≡ 21 + k) ↔ Lowest (image_faults s) k
  -- Then 11 exactly if the buffer is shorter than the listing.
  pub number_11 : (l.answer.number ≡ 11) ↔ (NoRow (image_faults s) × (length buffer < length (listing s)))
  -- 0 exactly if none of these holds.
  pub number_0 : (l.answer.number ≡ 0) ↔ (NoRow (image_faults s) × (length (listing s) ≤ length buffer))
  -- A refused call answers no length, and leaves the buffer as it was.
  pub length_refused : (l.answer.number ≡ 0 → ⊥) → l.answer.length ≡ 0
  pub buffer_refused : (l.answer.number ≡ 0 → ⊥) → l.text ≡ buffer

-- Q-1, over a translator and a lister.
pub record Request1 (translate : Translate) (list : ListImage) : Type 0 where
  -- Q-1 4, for every image and buffer.
  pub refusing : (s buffer : List ℕ) → ListRefused s buffer (list s buffer)
  -- Q-1 2: an accepted image, in any buffer with room, is answered by 0 and the length; the buffer holds the listing and behind it what stood there.
  pub laid_out : (s buffer : List ℕ) → NoRow (image_faults s) → length (listing s) ≤ length buffer
      → list s buffer ≡ record { answer = list_answered 0 (length (listing s)); text = listing s ++ drop (length (listing s)) buffer }
  -- Q-1 3: what listing gives for an accepted image, translated into any buffer with room, is that image, byte for byte, and the answer has its length.
  pub back : (s room buffer : List ℕ) → Bytes s → (list s room).answer.number ≡ 0 → length s ≤ length buffer
      → translate (told (list s room)) buffer ≡ record { answer = answered 0 0 (length s); image = s ++ drop (length s) buffer }
  -- And the image that translating gives for it lists as the same text, in any buffer with room.
  pub again : (s room buffer more : List ℕ) → Bytes s → (list s room).answer.number ≡ 0 → length s ≤ length buffer
      → length (told (list s room)) ≤ length more → told (list (given (translate (told (list s room)) buffer)) more) ≡ told (list s room)
  -- No listing has more than 9,472 bytes.
  pub most : (s buffer : List ℕ) → (list s buffer).answer.length ≤ 9472

-- The bench's own call, as its promise (Calls.antt) gives it.
abbrev pub our_list : ListImage
our_list s buffer = record { answer = listed_as s (length buffer); text = listed_into s buffer }

-- The exact result that a statement comes to on a machine, if it comes to one.
abbrev pub comes_to : {R : Type 0} → (R → ℕ) → (R → ℕ) → Machine → Statement R → List ℤ
comes_to place number m a = results place number m.variables m.places.kept m.hold a

-- Turn 3 to 5: a machine at a cell of an image, or at a line of a text, that keeps the rules for a state.
pub record AtCell (s : List ℕ) (m : Machine) : Type 0 where
  pub accepted : checked s ≡ 0
  pub ruled : Ruled (cell_count s) (variable_count s) (λ k. is_hold (statement_of (cell_at s k))) m
  pub here : m.next < cell_count s

pub record AtLine (text : List ℕ) (m : Machine) : Type 0 where
  pub fine : accepted text ≡ true
  pub ruled : Ruled (how_many makes_cell (said text)) (how_many makes_variable (said text)) (λ k. is_hold (line_at (said text) k)) m
  pub here : m.next < how_many makes_cell (said text)

-- Q-2 3: an operand that is written ER.
unfoldable pub written_er : Value Name → Bool
written_er (Literal z) = false
written_er (Variable w) = eq_list w (ascii "ER")

-- Q-2, over a translator, a checker and a runner. The request changes what a turn does, and no call: so it asks for the demands, whose runs are made up of the
-- turns of cells and of lines, and says what these do to ER (10) and EF (15).
pub record Request2 (translate : Translate) (check : Check) (run : Run) : Type 0 where
  pub demand_1 : Demand1 translate check run
  pub demand_2 : Demand2 translate check run
  pub demand_3 : Demand3 translate run
  -- Turn 11, Q-2 3, Q-2 4: a turn of a cell changes ER and EF just as `Flags` says, by its effect and by whether it reads ER; and so does a turn of a line (Q-2 5).
  pub cell_flags : (s : List ℕ) (m : Machine) → AtCell s m → Flags (cell_acts s m) m.variables (turn (cell_count s) (cell_acts s m) m).machine.variables
  pub line_flags : (text : List ℕ) (m : Machine) → AtLine text m
      → Flags (line_acts (said text) m) m.variables (turn (how_many makes_cell (said text)) (line_acts (said text) m) m).machine.variables
  -- Q-2 3: a cell reads ER exactly if its left or its right operand is variable 10, a line exactly if an operand of it is written ER; but neither does
  -- while turns of a hold are to come.
  pub cell_reads : (s : List ℕ) (m : Machine) → AtCell s m
      → ((cell_acts s m).reads ≡ true) ↔ ((m.hold ≡ 0) × (((cell_at s m.next).left ≡ O.Variable 10) ⊎ ((cell_at s m.next).right ≡ O.Variable 10)))
  pub line_reads : (text : List ℕ) (m : Machine) → AtLine text m
      → ((line_acts (said text) m).reads ≡ true) ↔ ((m.hold ≡ 0) × T (any_of written_er (operands (line_at (said text) m.next))))
  -- Turn 7, Turn 11: so in each turn of a run of an accepted image, and of an accepted text, from before its events to behind its statement.
  pub image_run : (s script : List ℕ) (budget : ℕ) → checked s ≡ 0 → bad_events script ≡ false → Each FlagsIn (image_trace s script budget).steps
  pub text_run : (text script : List ℕ) (budget : ℕ) → accepted text ≡ true → bad_events script ≡ false → Each FlagsIn (text_trace text script budget).steps
  -- Turn 11: an event changes neither.
  pub event_flags : (e : Event) (m : Machine) → T (good_event e)
      → (read (happens e m).variables 10 ≡ read m.variables 10) × (read (happens e m).variables 15 ≡ read m.variables 15)

-- Q-6, over a translator, a checker and a runner. The request changes what a statement does, and no call: so it asks for the demands, whose runs are made up of
-- what a cell does (`cell_acts`) and what a line does (`line_acts`), and says what these two do.
pub record Request6 (translate : Translate) (check : Check) (run : Run) : Type 0 where
  pub demand_1 : Demand1 translate check run
  pub demand_2 : Demand2 translate check run
  pub demand_3 : Demand3 translate run
  -- Q-6 2: on every machine a cell is in error 109 exactly if what its statement comes to is below the literal range, in error 101 exactly if it is above;
  -- and so is a line.
  pub cell_tells : (s : List ℕ) (m : Machine) → OverOrUnder (comes_to same same m (statement_of (cell_at s m.next))) (cell_acts s m).effect
  pub line_tells : (text : List ℕ) (m : Machine)
      → OverOrUnder (comes_to (place_of (said text)) (number_of (said text)) m (line_at (said text) m.next)) (line_acts (said text) m).effect
  -- Neither is ever the error of a division or of an MA.
  pub cell_divides : (s : List ℕ) (m : Machine) → AtCell s m → (v : ℕ) (x y : Value ℕ) → statement_of (cell_at s m.next) ≡ SetWith v x Divided y → Neither (cell_acts s m).effect
  pub cell_moves : (s : List ℕ) (m : Machine) → AtCell s m → (x : Value ℕ) → statement_of (cell_at s m.next) ≡ MA x → Neither (cell_acts s m).effect
  pub line_divides : (text : List ℕ) (m : Machine) → AtLine text m → (v : Name) (x y : Value Name) → line_at (said text) m.next ≡ SetWith v x Divided y
      → Neither (line_acts (said text) m).effect
  pub line_moves : (text : List ℕ) (m : Machine) → AtLine text m → (x : Value Name) → line_at (said text) m.next ≡ MA x → Neither (line_acts (said text) m).effect
  -- Turn 5, Q-6 2: in no answer, refused or not, is ER (10) anything but 0, 101 to 106, or 109.
  pub error_number : (s script : List ℕ) (budget : ℕ) (buffer : List ℕ)
      → let er = read (run s script budget buffer).answer.state.variables 10 in T (eq_z er (pos 0) || (between (pos 101) (pos 106) er || eq_z er (pos 109)))

-- Q-7 2: a return place of an answer, by its number.
abbrev pub told_place : State → ℕ → StatePlace
told_place s k = get_or s.places k no_place

-- Q-7 2, Q-7 5: a mark is 0, and the target with it, or 1.
abbrev pub GoodMark : StatePlace → Type 0
GoodMark place = ((place.mark ≡ 0) × (place.target ≡ 0)) ⊎ (place.mark ≡ 1)

-- Q-7 5 and the rules for the places, of an answer from a program with so many cells: cells and targets are at most that; a mark is 0, and the target with it,
-- or 1; a place that is not kept is all 0. At most one mark is 1, and then no handler is armed.
pub record Marks (cells : ℕ) (s : State) : Type 0 where
  pub cell : (k : ℕ) → (told_place s k).cell ≤ cells
  pub target : (k : ℕ) → (told_place s k).target ≤ cells
  pub mark : (k : ℕ) → GoodMark (told_place s k)
  pub unused : (k : ℕ) → s.kept ≤ k → told_place s k ≡ no_place
  pub one : (j k : ℕ) → (told_place s j).mark ≡ 1 → (told_place s k).mark ≡ 1 → j ≡ k
  pub unarmed : (k : ℕ) → (told_place s k).mark ≡ 1 → s.handler ≡ 65535

-- Q-7, over a translator, a checker and a runner. The request changes what a turn does and what an answer tells, and no call: so it asks for the demands, whose
-- runs are made up of the turns of cells and of lines, and says what these do to the handler and to the places that its calls kept.
pub record Request7 (translate : Translate) (check : Check) (run : Run) : Type 0 where
  pub demand_1 : Demand1 translate check run
  pub demand_2 : Demand2 translate check run
  pub demand_3 : Demand3 translate run
  -- Q-7 2, Q-7 3: a turn of a cell, and of a line, in any state that keeps the rules, one with several places of a handler too.
  pub cell_handlers : (s : List ℕ) (m : Machine) → AtCell s m → TurnHandlers (cell_count s) (cell_acts s m) m
  pub line_handlers : (text : List ℕ) (m : Machine) → AtLine text m → TurnHandlers (how_many makes_cell (said text)) (line_acts (said text) m) m
  -- Events 2: an event changes neither the places nor the handler.
  pub event_handlers : (e : Event) (m : Machine) → ((happens e m).places ≡ m.places) × ((happens e m).handler ≡ m.handler)
  -- Turn 7: so in each turn of a run from the start, of an accepted image and of an accepted text, and there at most one place is a handler's, and then none is armed.
  pub image_run : (s script : List ℕ) (budget : ℕ) → checked s ≡ 0 → bad_events script ≡ false → Each HandlersIn (image_trace s script budget).steps
  pub text_run : (text script : List ℕ) (budget : ℕ) → accepted text ≡ true → bad_events script ≡ false → Each HandlersIn (text_trace text script budget).steps
  -- Q-7 2: each place that is a handler's at the end of a run was kept by one of its turns, an error that called the handler, and has for its target that handler.
  pub image_origins : (s script : List ℕ) (budget : ℕ) → checked s ≡ 0 → bad_events script ≡ false
      → Origins (image_course s script budget).machine.places (image_trace s script budget).steps
  pub text_origins : (text script : List ℕ) (budget : ℕ) → accepted text ≡ true → bad_events script ≡ false
      → Origins (text_course text script budget).machine.places (text_trace text script budget).steps
  -- Q-7 4, Q-7 5: so in the state of every answer, refused or not.
  pub marks : (s script : List ℕ) (budget : ℕ) (buffer : List ℕ) → Marks (cell_count s) (run s script budget buffer).answer.state

-- No row in front of row k of the faults holds for line l of a text, and none at all for a line before it.
abbrev pub NoneBefore : List ℕ → ℕ → ℕ → Type 0
NoneBefore text k l = ((j : ℕ) → j < k → get_or (faults_of text l) j false ≡ false) × ((j : ℕ) → j < l → NoRow (faults_of text j))

-- A text of one line.
abbrev pub alone : List ℕ → List ℕ
alone l = l ++ (10 ∷ [])

-- Q-10, over a translator and a checker.
pub record Request10 (translate : Translate) (check : Check) : Type 0 where
  -- Q-10 3, Text 12, Refusals 20: 5 with line l exactly if that line declares a reserved name, has no lower fault, and no line before it has any.
  pub five : (text buffer : List ℕ) (l : ℕ)
      → (((translate text buffer).answer.number ≡ 5) × ((translate text buffer).answer.line ≡ l))
      ↔ ((overlong text ≡ false) × NoneBefore text 3 l × ((w : Name) × (reserved w ≡ true) × DeclaredAt text l w))
  -- Q-10 3: `LB w` and `VA w=z` by themselves, for every name of two characters: 5 exactly for those of the drives.
  pub five_label : (w : Name) (buffer : List ℕ) → two_characters w ≡ true
      → ((translate (alone (ascii "LB " ++ w)) buffer).answer.number ≡ 5) ↔ (reserved w ≡ true)
  pub five_variable : (w : Name) (z : ℤ) (buffer : List ℕ) → two_characters w ≡ true → in_range literals z ≡ true
      → ((translate (alone (ascii "VA " ++ (w ++ (ascii "=" ++ plain z)))) buffer).answer.number ≡ 5) ↔ (reserved w ≡ true)
  -- Q-10 3: what an accepted text declares is free.
  pub free_text : (text buffer : List ℕ) → (translate text buffer).answer.number ≡ 0 → (l : ℕ) (w : Name) → DeclaredAt text l w → free_name w ≡ true
  -- Q-10 4: an image with a reserved name in a record, and without the faults 21 to 24, gets 25; the records of an accepted image have free names.
  pub twenty_five : (s : List ℕ) (k : ℕ) → k < label_count s + variable_count s → reserved (record_name s k) ≡ true
      → ((j : ℕ) → j < 4 → get_or (image_faults s) j false ≡ false) → (check s).number ≡ 25
  pub free_image : (s : List ℕ) → (check s).number ≡ 0 → (k : ℕ) → k < label_count s + variable_count s → free_name (record_name s k) ≡ true
  -- Q-10 5: 8 with line l if that line uses a word newly covered, has no lower fault, and no line before it has any, whatever else the text declares.
  pub eight : (text buffer : List ℕ) (l : ℕ) (w : Name) → newly_reserved w ≡ true → UsedAt text l w → overlong text ≡ false → NoneBefore text 6 l
      → ((translate text buffer).answer.number ≡ 8) × ((translate text buffer).answer.line ≡ l)
  -- Q-10 5: `PR w`, `BR w` and `w=z` by themselves have the right form, so each such word gets 8 there and not 3.
  pub eight_read : (w : Name) (buffer : List ℕ) → newly_reserved w ≡ true → (translate (alone (ascii "PR " ++ w)) buffer).answer ≡ answered 8 1 0
  pub eight_target : (w : Name) (buffer : List ℕ) → newly_reserved w ≡ true → (translate (alone (ascii "BR " ++ w)) buffer).answer ≡ answered 8 1 0
  pub eight_written : (w : Name) (z : ℤ) (buffer : List ℕ) → newly_reserved w ≡ true → in_range literals z ≡ true
      → (translate (alone (w ++ (ascii "=" ++ plain z))) buffer).answer ≡ answered 8 1 0

-- Document 01, "Bench sheet": its rows a to l in one table, which holds by computation; row f by Q-6 3, a row more for Q-2 3 and two for Q-7 3.
-- Assumes nothing.
use Rattle.std.specs.Prelude.{◌≡◌, refl, List, [], ◌∷◌, ◌++◌, ℕ, ◌*◌, ◌-◌, ℤ, pos, negsuc, length, set, replicate}
use Prim.Native.String.{String}
use mathlib.Core.List as List
use Rattle.numbers.specs.Bits as Bits
use Rattle.numbers.specs.Bytes as Bytes
use Rattle.numbers.specs.Tests as Tests
use Rattle.numbers.specs.Tests.{Each}
use Rattle.program.specs.Cells as Cells
use Rattle.program.specs.DriveWords as DriveWords
use Rattle.program.specs.Names as Names
use Rattle.program.specs.Statements as Statements
use Rattle.program.specs.Variables as Variables
use Rattle.text.specs.Faults as Faults
use Rattle.text.specs.Forms as Forms
use Rattle.text.specs.Lines as Lines
use Rattle.text.specs.Tokens as Tokens
use Rattle.image.specs.Check as Check
use Rattle.image.specs.Layout as Layout
use Rattle.effects.specs.Errors as Errors
use Rattle.effects.specs.Effects as Effects
use Rattle.effects.specs.Deeds as Deeds
use Rattle.events.specs.Events as Events
use Rattle.machine.specs.Happens as Happens
use Rattle.machine.specs.Run as Run
use Rattle.machine.specs.Turn as Turn
use Rattle.translation.specs.Places as Places
use Rattle.bench.specs.Following as Following
use Rattle.running.specs.Courses as Courses
use Rattle.bench.specs.Answers as Answers
use Rattle.bench.specs.Running as Running
use Rattle.translation.specs.Images as Images
use Rattle.bench.specs.Translating as Translating
use Rattle.numbers.specs.Bytes.{ascii}
use Rattle.bench.specs.Translating.{translated, translated_into}
use Rattle.bench.specs.Running.{ran, ran_into}
use Rattle.bench.specs.Following.{followed, followed_into}
use Rattle.bench.specs.declared.Translated.{Translated}
use Rattle.bench.specs.Answers.{no_place}
use Rattle.bench.specs.declared.StatePlace.{StatePlace}
use Rattle.bench.specs.declared.State.{State}
use Rattle.bench.specs.declared.Ran.{Ran}

-- A script of events; each is turn, kind, number, two zeros, value.
abbrev pub two_arrivals : List ℕ
two_arrivals = 3 ∷ 0 ∷ 0 ∷ 0 ∷ 2 ∷ 0 ∷ 0 ∷ 0 ∷ 0 ∷ 0 ∷ 0 ∷ 0 ∷ 8 ∷ 0 ∷ 0 ∷ 0 ∷ 2 ∷ 0 ∷ 0 ∷ 0 ∷ 0 ∷ 0 ∷ 0 ∷ 0 ∷ []

-- Bytes, filled with zeros to 16.
abbrev pub padded : List ℕ → List ℕ
padded xs = xs ++ replicate (16 - length xs) 0

-- A state by what differs in the sheet: in all of them the axis is still, and no hold runs.
abbrev pub still : List ℤ → ℕ → List StatePlace → ℕ → ℕ → State
still variables next places kept handler =
    record {
      variables = variables;
      next = next;
      places = places;
      kept = kept;
      handler = handler;
      hold = 0;
      motion = 0;
      value = pos 0;
    }

-- The state at the start of a program without variables of its own.
abbrev pub start : State
start =
    still
    (pos 0 ∷ pos 0 ∷ pos 0 ∷ pos 0 ∷ pos 0 ∷ pos 0 ∷ pos 1000000 ∷ pos 1000000 ∷ pos 1000 ∷ pos 768000 ∷ replicate 54 (pos 0))
    0 (replicate 8 no_place) 0 65535

-- Such a state with a variable or the next cell changed; with a handler armed; with the first return place kept.
abbrev pub variable : ℕ → ℤ → State → State
variable v z s = still (set s.variables v z) s.next s.places s.kept s.handler

abbrev pub next : ℕ → State → State
next n s = still s.variables n s.places s.kept s.handler

abbrev pub armed_at : ℕ → State → State
armed_at cell s = still s.variables s.next s.places s.kept cell

abbrev pub keeping : StatePlace → State → State
keeping place s = still s.variables s.next (set s.places 0 place) 1 s.handler

-- One run of a row: what it is given, and what it must give.
pub record Trial : Type 0 where
  pub script : List ℕ
  pub budget : ℕ
  pub reason : ℕ
  pub turns : ℕ
  pub wrote : ℕ
  pub records : List ℕ
  pub state : State

abbrev pub trial : List ℕ → ℕ → ℕ → ℕ → ℕ → List ℕ → State → Trial
trial script budget reason turns wrote records state =
    record { script = script; budget = budget; reason = reason; turns = turns; wrote = wrote; records = records; state = state }

-- One row: a text, what translating it must answer and write, and its runs.
pub record Row : Type 0 where
  pub letter : String
  pub text : List ℕ
  pub answer : Translated
  pub image : List ℕ
  pub trials : List Trial

abbrev pub row : String → List ℕ → Translated → List ℕ → List Trial → Row
row letter text answer image trials = record { letter = letter; text = text; answer = answer; image = image; trials = trials }

abbrev pub answer : ℕ → ℕ → ℕ → Translated
answer number line length = record { number = number; line = line; length = length }

abbrev pub ran_with : Trial → Ran
ran_with t = record { number = 0; index = 0; reason = t.reason; turns = t.turns; records = t.wrote; state = t.state }

-- A buffer that holds 170 in each byte.
abbrev pub fresh : ℕ → List ℕ
fresh n = replicate n 170

abbrev pub feeder : List ℕ
feeder = ascii "LB AA\nMR 100\nH\nIC R1\nBR AA,R1<2\nPR P\nE\n"

abbrev pub feeder_image : List ℕ
feeder_image =
    padded (0x0C ∷ 0x00 ∷ 0x00 ∷ 0x01 ∷ 0x64 ∷ [])
    ++ (padded (0x09 ∷ [])
    ++ (padded (0x03 ∷ 0x01 ∷ [])
    ++ (padded (0x05 ∷ 0x00 ∷ 0x03 ∷ 0x06 ∷ 0x01 ∷ 0x00 ∷ 0x00 ∷ 0x00 ∷ 0x02 ∷ [])
    ++ (padded (0x0E ∷ 0x00 ∷ 0x00 ∷ 0x02 ∷ 0x05 ∷ [])
    ++ (padded (0x08 ∷ [])
    ++ (0x41 ∷ 0x41 ∷ 0x00 ∷ 0x00
    ∷ 0x60 ∷ 0x00 ∷ 0x00 ∷ 0x00 ∷ 0x06 ∷ 0x00 ∷ 0x01 ∷ 0x00 ∷ 0x00 ∷ 0x00 ∷ 0x01 ∷ 0x00 ∷ 0x74 ∷ 0x00 ∷ 0x00 ∷ 0x00 ∷ []))))))

abbrev pub feeder_records : List ℕ
feeder_records =
    0 ∷ 0 ∷ 0 ∷ 0 ∷ 3 ∷ 0 ∷ 0 ∷ 0 ∷ 100 ∷ 0 ∷ 0 ∷ 0
    ∷ 6 ∷ 0 ∷ 0 ∷ 0 ∷ 3 ∷ 0 ∷ 0 ∷ 0 ∷ 100 ∷ 0 ∷ 0 ∷ 0
    ∷ 11 ∷ 0 ∷ 0 ∷ 0 ∷ 5 ∷ 5 ∷ 0 ∷ 0 ∷ 200 ∷ 0 ∷ 0 ∷ 0 ∷ []

-- The trailers of images with no cell, one cell and two, and nothing else.
abbrev pub trailer0 : List ℕ
trailer0 = 0 ∷ 0 ∷ 0 ∷ 0 ∷ 0 ∷ 0 ∷ 0 ∷ 0 ∷ 0 ∷ 0 ∷ 1 ∷ 0 ∷ 16 ∷ 0 ∷ 0 ∷ 0 ∷ []

abbrev pub trailer1 : List ℕ
trailer1 = 16 ∷ 0 ∷ 0 ∷ 0 ∷ 1 ∷ 0 ∷ 0 ∷ 0 ∷ 0 ∷ 0 ∷ 1 ∷ 0 ∷ 32 ∷ 0 ∷ 0 ∷ 0 ∷ []

abbrev pub trailer2 : List ℕ
trailer2 = 32 ∷ 0 ∷ 0 ∷ 0 ∷ 2 ∷ 0 ∷ 0 ∷ 0 ∷ 0 ∷ 0 ∷ 1 ∷ 0 ∷ 48 ∷ 0 ∷ 0 ∷ 0 ∷ []

-- The image of `R1=2147483647^-1`, whose result is -2,147,483,648.
abbrev pub lowest_image : List ℕ
lowest_image = 0x02 ∷ 0x01 ∷ 0x07 ∷ 0x05 ∷ 0xFF ∷ 0xFF ∷ 0xFF ∷ 0x7F ∷ 0xFF ∷ 0xFF ∷ 0xFF ∷ 0xFF ∷ 0x00 ∷ 0x00 ∷ 0x00 ∷ 0x00 ∷ trailer1

-- The image of `RT`, an error 105, and `R1=EF+ER`.
abbrev pub reading_image : List ℕ
reading_image =
    padded (0x07 ∷ [])
    ++ (0x02 ∷ 0x01 ∷ 0x01 ∷ 0x0A ∷ 0x0F ∷ 0x00 ∷ 0x00 ∷ 0x00 ∷ 0x0A ∷ 0x00 ∷ 0x00 ∷ 0x00 ∷ 0x00 ∷ 0x00 ∷ 0x00 ∷ 0x00 ∷ trailer2)

-- The state after an error in the first of so many cells.
abbrev pub erred : ℕ → ℕ → State
erred error cells = next cells (variable 10 (pos error) (variable 15 (pos 1) start))

-- A handler at cell 4 that counts and returns, called by an `RT` with no place kept, and a second time by another: the text, its image, the record of an error
-- 105 in a turn, and the states inside the first call and at the end.
abbrev pub again : List ℕ
again = ascii "OE AA\nRT\nRT\nE\nLB AA\nIC R1\nRT\n"

abbrev pub arming : ℕ → List ℕ
arming target = 0x0A ∷ 0x00 ∷ 0x00 ∷ 0x00 ∷ 0x00 ∷ 0x00 ∷ 0x00 ∷ 0x00 ∷ 0x00 ∷ 0x00 ∷ 0x00 ∷ 0x00 ∷ target ∷ 0x00 ∷ 0x00 ∷ 0x00 ∷ []

abbrev pub again_image : List ℕ
again_image =
    arming 0x04
    ++ (padded (0x07 ∷ [])
    ++ (padded (0x07 ∷ [])
    ++ (padded (0x08 ∷ [])
    ++ (padded (0x03 ∷ 0x01 ∷ [])
    ++ (padded (0x07 ∷ [])
    ++ (0x41 ∷ 0x41 ∷ 0x04 ∷ 0x00
    ∷ 0x60 ∷ 0x00 ∷ 0x00 ∷ 0x00 ∷ 0x06 ∷ 0x00 ∷ 0x01 ∷ 0x00 ∷ 0x00 ∷ 0x00 ∷ 0x01 ∷ 0x00 ∷ 0x74 ∷ 0x00 ∷ 0x00 ∷ 0x00 ∷ []))))))

abbrev pub wrong : ℕ → List ℕ
wrong turn = turn ∷ 0 ∷ 0 ∷ 0 ∷ 6 ∷ 0 ∷ 0 ∷ 0 ∷ 105 ∷ 0 ∷ 0 ∷ 0 ∷ []

abbrev pub in_handler : State
in_handler = keeping (record { cell = 2; target = 4; mark = 1 }) (variable 1 (pos 1) (erred 105 5))

abbrev pub armed_again : State
armed_again = armed_at 4 (variable 1 (pos 2) (erred 105 6))

-- A handler at cell 3 that has an `OE 0`, so that its return arms nothing.
abbrev pub own_choice : List ℕ
own_choice = ascii "OE AA\nRT\nE\nLB AA\nOE 0\nRT\n"

abbrev pub own_choice_image : List ℕ
own_choice_image =
    arming 0x03
    ++ (padded (0x07 ∷ [])
    ++ (padded (0x08 ∷ [])
    ++ (0x0A ∷ 0x00 ∷ 0x00 ∷ 0x00 ∷ 0x00 ∷ 0x00 ∷ 0x00 ∷ 0x00 ∷ 0x00 ∷ 0x00 ∷ 0x00 ∷ 0x00 ∷ 0xFF ∷ 0xFF ∷ 0x00 ∷ 0x00
    ∷ (padded (0x07 ∷ [])
    ++ (0x41 ∷ 0x41 ∷ 0x03 ∷ 0x00
    ∷ 0x50 ∷ 0x00 ∷ 0x00 ∷ 0x00 ∷ 0x05 ∷ 0x00 ∷ 0x01 ∷ 0x00 ∷ 0x00 ∷ 0x00 ∷ 0x01 ∷ 0x00 ∷ 0x64 ∷ 0x00 ∷ 0x00 ∷ 0x00 ∷ [])))))

-- The sheet.
abbrev pub sheet : List Row
sheet =
    row "a" feeder (answer 0 0 116) feeder_image []
    ∷ row "b" feeder (answer 0 0 116) feeder_image
    (trial two_arrivals 20 1 13 3 feeder_records (next 6 (variable 5 (pos 200) (variable 1 (pos 2) start))) ∷ [])
    ∷ row "c" feeder (answer 0 0 116) feeder_image
    (trial two_arrivals 12 3 12 3 feeder_records (next 5 (variable 5 (pos 200) (variable 1 (pos 2) start)))
    ∷ trial two_arrivals 13 1 13 3 feeder_records (next 6 (variable 5 (pos 200) (variable 1 (pos 2) start))) ∷ [])
    ∷ row "d" [] (answer 0 0 16) trailer0 (trial [] 0 1 0 0 [] start ∷ [])
    ∷ row "e" (ascii "R1=-7/2") (answer 0 0 32)
    (0x02 ∷ 0x01 ∷ 0x04 ∷ 0x05 ∷ 0xF9 ∷ 0xFF ∷ 0xFF ∷ 0xFF ∷ 0x02 ∷ 0x00 ∷ 0x00 ∷ 0x00 ∷ 0x00 ∷ 0x00 ∷ 0x00 ∷ 0x00 ∷ trailer1)
    (trial [] 5 1 1 0 [] (next 1 (variable 1 (negsuc 2) start)) ∷ [])
    ∷ row "f" (ascii "R1=2147483647^-1") (answer 0 0 32) lowest_image
    (trial [] 5 1 1 1 (0 ∷ 0 ∷ 0 ∷ 0 ∷ 6 ∷ 0 ∷ 0 ∷ 0 ∷ 109 ∷ 0 ∷ 0 ∷ 0 ∷ []) (erred 109 1) ∷ [])
    ∷ row "g" (ascii "R1=2147483647\nIC R1") (answer 0 0 48)
    (padded (0x01 ∷ 0x01 ∷ 0x00 ∷ 0x01 ∷ 0xFF ∷ 0xFF ∷ 0xFF ∷ 0x7F ∷ []) ++ (padded (0x03 ∷ 0x01 ∷ []) ++ trailer2))
    (trial [] 5 1 2 1 (1 ∷ 0 ∷ 0 ∷ 0 ∷ 6 ∷ 0 ∷ 0 ∷ 0 ∷ 101 ∷ 0 ∷ 0 ∷ 0 ∷ []) (variable 1 (pos 2147483647) (erred 101 2)) ∷ [])
    ∷ row "h" (ascii "O1=1\nO1=2") (answer 0 0 48)
    (padded (0x01 ∷ 0x0B ∷ 0x00 ∷ 0x01 ∷ 0x01 ∷ []) ++ (padded (0x01 ∷ 0x0B ∷ 0x00 ∷ 0x01 ∷ 0x02 ∷ []) ++ trailer2))
    (trial [] 5 1 2 2
    (0 ∷ 0 ∷ 0 ∷ 0 ∷ 1 ∷ 1 ∷ 0 ∷ 0 ∷ 1 ∷ 0 ∷ 0 ∷ 0 ∷ 1 ∷ 0 ∷ 0 ∷ 0 ∷ 6 ∷ 0 ∷ 0 ∷ 0 ∷ 103 ∷ 0 ∷ 0 ∷ 0 ∷ [])
    (variable 11 (pos 1) (erred 103 2)) ∷ [])
    ∷ row "i" (ascii "RT") (answer 0 0 32) (padded (0x07 ∷ []) ++ trailer1)
    (trial [] 5 1 1 1 (0 ∷ 0 ∷ 0 ∷ 0 ∷ 6 ∷ 0 ∷ 0 ∷ 0 ∷ 105 ∷ 0 ∷ 0 ∷ 0 ∷ []) (erred 105 1) ∷ [])
    ∷ row "j" (ascii "MV=1") (answer 9 1 0) [] []
    ∷ row "k" (ascii "R1=5--3") (answer 0 0 32)
    (0x02 ∷ 0x01 ∷ 0x02 ∷ 0x05 ∷ 0x05 ∷ 0x00 ∷ 0x00 ∷ 0x00 ∷ 0xFD ∷ 0xFF ∷ 0xFF ∷ 0xFF ∷ 0x00 ∷ 0x00 ∷ 0x00 ∷ 0x00 ∷ trailer1)
    (trial [] 5 1 1 0 [] (next 1 (variable 1 (pos 8) start)) ∷ [])
    ∷ row "l" (ascii "VI=768000") (answer 0 0 32) (padded (0x01 ∷ 0x08 ∷ 0x00 ∷ 0x01 ∷ 0x00 ∷ 0xB8 ∷ 0x0B ∷ []) ++ trailer1)
    (trial [] 5 1 1 1 (0 ∷ 0 ∷ 0 ∷ 0 ∷ 6 ∷ 0 ∷ 0 ∷ 0 ∷ 103 ∷ 0 ∷ 0 ∷ 0 ∷ []) (erred 103 1) ∷ [])
    ∷ row "l" (ascii "VI=767999") (answer 0 0 32) (padded (0x01 ∷ 0x08 ∷ 0x00 ∷ 0x01 ∷ 0xFF ∷ 0xB7 ∷ 0x0B ∷ []) ++ trailer1)
    (trial [] 5 1 1 0 [] (next 1 (variable 8 (pos 767999) start)) ∷ [])
    ∷ row "Q-2 3" (ascii "RT\nR1=EF+ER") (answer 0 0 48) reading_image
    (trial [] 5 1 2 1 (0 ∷ 0 ∷ 0 ∷ 0 ∷ 6 ∷ 0 ∷ 0 ∷ 0 ∷ 105 ∷ 0 ∷ 0 ∷ 0 ∷ []) (next 2 (variable 10 (pos 105) (variable 1 (pos 106) start))) ∷ [])
    ∷ row "Q-7 3" again (answer 0 0 116) again_image
    (trial [] 9 1 8 2 (wrong 1 ++ wrong 4) armed_again ∷ trial [] 3 3 3 1 (wrong 1) in_handler ∷ [])
    ∷ row "Q-7 3" own_choice (answer 0 0 100) own_choice_image (trial [] 9 1 5 1 (wrong 1) (erred 105 5) ∷ [])
    ∷ []

-- A run of the row's image and of its text, each into a buffer of just the size required.
abbrev pub RunsAs : Row → Trial → Type 0
RunsAs r t =
    (ran r.image t.script t.budget (12 * t.budget) ≡ ran_with t)
    × (ran_into r.image t.script t.budget (fresh (12 * t.budget)) ≡ t.records ++ fresh (12 * t.budget - length t.records))
    × (followed r.text t.script t.budget ≡ ran_with t)
    × (followed_into r.text t.script t.budget (fresh (12 * t.budget)) ≡ t.records ++ fresh (12 * t.budget - length t.records))

-- A row holds: the answer to translating, the whole buffer after it, and each run.
abbrev pub Holds : Row → Type 0
Holds r =
    (translated r.text 128 ≡ r.answer)
    × (translated_into r.text (fresh 128) ≡ r.image ++ fresh (128 - length r.image))
    × Each (RunsAs r) r.trials

pub sheet_holds : Each Holds sheet
unfolding Bits.digits32 Bits.signed32 Bits.each_digit Bits.on32 Bits.and32 Bits.or32 Bits.xor32 Bytes.bytes Bytes.number Bytes.field Bytes.ascii Tests.eq_z Tests.eq_list Tests.all_of Tests.any_of Tests.all_below Tests.any_below Tests.first_below Tests.listed Tests.numbered Tests.lowest List.flat_map Cells.no_target Cells.operator_number Cells.comparison_number Cells.operator_of Cells.comparison_of Cells.operand_of Cells.jump_of Cells.cell_of Cells.value_of Cells.condition_of Cells.hold_of Cells.statement_by Cells.statement_of Names.letter Names.digit Names.word_character Names.mnemonics Names.variable_names Names.paper_variable Names.paper_word Names.two_characters Names.user_name DriveWords.drive_words Names.reserved Names.free_name Statements.compared Statements.operands Statements.writes Statements.targets Variables.range_of Variables.start_variables Variables.all_inputs Variables.most_cells Variables.most_labels Variables.most_variables Faults.overlong Faults.long_line Faults.bad_form Faults.too_big Faults.big_value Faults.big_in Faults.big_literal Faults.declares Faults.reserved_name Faults.heard Faults.makes_cell Faults.makes_label Faults.makes_variable Faults.how_many Faults.declares_it Faults.repeated Faults.too_many Faults.first_makes Faults.unknown_variable Faults.unknown_value Faults.unknown_in Faults.undeclared Faults.read_only_written Faults.faults Faults.faults_from Faults.said Faults.text_faults Faults.first_from Faults.first_fault Faults.place_of Faults.rank_of Faults.number_of Forms.operator_sign Forms.comparison_sign Forms.meant Forms.operator_meant Forms.comparison_meant Forms.digits Forms.decimal Forms.literal Forms.variable_name Forms.variable Forms.operand Forms.put Forms.word Forms.sign Forms.takes Forms.fill Forms.forms Forms.by_form Forms.statement Forms.reading Lines.onto_first_line Lines.lines Tokens.printable Tokens.uncommented Tokens.joins Tokens.onto_first_token Tokens.tokens Check.bad_length Check.bad_edition Check.bad_trailer Check.layouts Check.good_written Check.good_selector Check.good_operand Check.good_target Check.fits Check.bad_cell Check.bad_cells Check.record_place Check.record_name Check.bad_name Check.bad_target Check.bad_start Check.bad_records Check.image_faults Check.checked Layout.shape Layout.operand_number Layout.cell_bytes Layout.label_bytes Layout.variable_bytes Layout.image_length Layout.trailer_bytes Layout.trailer_place Layout.first_label_place Layout.cell_count Layout.label_count Layout.variable_count Layout.edition Layout.whole_length Layout.operand_at Layout.cell_at Layout.label_place Layout.label_target Layout.variable_place Layout.start_value Layout.start_values Layout.name_at Errors.result_error Effects.read Effects.storing Effects.storing_result Effects.operate Effects.zero_divisor Effects.storing_with Effects.compares Effects.calling Effects.returning Effects.waiting Effects.holding Effects.moving Effects.slewing Effects.value Effects.holds Effects.printing Effects.branching Effects.calling_if Effects.effect Deeds.in_error Deeds.clears Deeds.is_er Deeds.reads_er Events.event_at Events.event_count Events.events Happens.input Happens.arrived_by Happens.happens Events.good_event Events.bad_script Events.bad_event Events.bad_events Events.first_bad_event Events.record_bytes Run.reach_by Run.trace_on Run.finally Run.course_of Turn.no_handler Turn.start_machine Turn.stored Turn.store_record Turn.keep Turn.release Turn.last_place Turn.calls_only Turn.moving_bit Turn.in_motion Turn.slew Turn.called Turn.handled Turn.rearmed Turn.returned Turn.armed Turn.held Turn.flagged Turn.failed Turn.applied Turn.clearing Turn.turn Places.line_at Places.starts Following.line_acts Following.lines_course Following.text_course Following.followed Following.followed_into Running.checked_as Courses.cell_acts Courses.image_course Answers.motion_number Answers.motion_value Answers.state_place_of Answers.state_of Answers.no_state Answers.ran_as Answers.refused_as Running.big_budget Running.small_room Running.run_faults Running.run_refusal Running.refusal_index Running.ran Run.over Running.ran_into Images.cell_part Images.label_part Images.variable_part Images.image_of Images.image Images.accepted Translating.too_short Translating.translated Translating.translated_into
sheet_holds = ((refl, refl, tt), ((refl, refl, ((refl, refl, refl, refl), tt)), ((refl, refl, ((refl, refl, refl, refl), ((refl, refl, refl, refl), tt))), ((refl, refl, ((refl, refl, refl, refl), tt)), ((refl, refl, ((refl, refl, refl, refl), tt)), ((refl, refl, ((refl, refl, refl, refl), tt)), ((refl, refl, ((refl, refl, refl, refl), tt)), ((refl, refl, ((refl, refl, refl, refl), tt)), ((refl, refl, ((refl, refl, refl, refl), tt)), ((refl, refl, tt), ((refl, refl, ((refl, refl, refl, refl), tt)), ((refl, refl, ((refl, refl, refl, refl), tt)), ((refl, refl, ((refl, refl, refl, refl), tt)), ((refl, refl, ((refl, refl, refl, refl), tt)), ((refl, refl, ((refl, refl, refl, refl), ((refl, refl, refl, refl), tt))), ((refl, refl, ((refl, refl, refl, refl), tt)), tt))))))))))))))))

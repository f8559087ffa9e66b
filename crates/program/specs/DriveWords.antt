-- Document 02, Q-10: the words of the drives.
-- Assumes nothing.
use Rattle.std.specs.Prelude.{List, [], ◌∷◌, map, ℕ}
use Rattle.numbers.specs.Bytes.{ascii}

-- Q-10 3: the words of the drives that have two characters, in the order of the alphabet: the mnemonics in the contents of source 000, section 5.1, a
-- register by itself wherever a line there has several, and of section 5.2 the words of two letters that stand for a function or a number.
unfoldable pub drive_words : List (List ℕ)
drive_words = map ascii (
    "AB" ∷ "AF" ∷ "AJ" ∷ "AL" ∷ "AO" ∷ "AS" ∷ "AT" ∷ "AV"
    ∷ "BD" ∷ "BE" ∷ "BL" ∷ "BM" ∷ "BP" ∷ "BR" ∷ "BY"
    ∷ "C1" ∷ "C2" ∷ "CB" ∷ "CE" ∷ "CF" ∷ "CK" ∷ "CL" ∷ "CP" ∷ "CS" ∷ "CW"
    ∷ "D1" ∷ "D2" ∷ "D3" ∷ "D4" ∷ "D5" ∷ "DB" ∷ "DC" ∷ "DE" ∷ "DG" ∷ "DJ" ∷ "DN" ∷ "DT"
    ∷ "EE" ∷ "EF" ∷ "EL" ∷ "EM" ∷ "ER" ∷ "ES" ∷ "EX"
    ∷ "F1" ∷ "F2" ∷ "F3" ∷ "F4" ∷ "F5" ∷ "F6" ∷ "F7" ∷ "F8" ∷ "FC" ∷ "FD" ∷ "FL" ∷ "FM" ∷ "FS" ∷ "FT"
    ∷ "HC" ∷ "HF" ∷ "HI" ∷ "HM" ∷ "HT"
    ∷ "I1" ∷ "I2" ∷ "I3" ∷ "I4" ∷ "I5" ∷ "I6" ∷ "I7" ∷ "I8" ∷ "I9" ∷ "IC" ∷ "IF" ∷ "IN" ∷ "IP" ∷ "IS" ∷ "IT" ∷ "IV"
    ∷ "JE"
    ∷ "LB" ∷ "LD" ∷ "LG" ∷ "LK" ∷ "LL" ∷ "LM" ∷ "LO" ∷ "LR" ∷ "LS" ∷ "LT"
    ∷ "MA" ∷ "MD" ∷ "MF" ∷ "MP" ∷ "MR" ∷ "MS" ∷ "MT" ∷ "MU" ∷ "MV"
    ∷ "NE"
    ∷ "O1" ∷ "O2" ∷ "O3" ∷ "OE" ∷ "OF" ∷ "OS" ∷ "OT"
    ∷ "PC" ∷ "PF" ∷ "PG" ∷ "PI" ∷ "PK" ∷ "PM" ∷ "PN" ∷ "PR" ∷ "PS" ∷ "PW" ∷ "PY"
    ∷ "QD"
    ∷ "R1" ∷ "R2" ∷ "R3" ∷ "R4" ∷ "RA" ∷ "RC" ∷ "RD" ∷ "RS" ∷ "RT"
    ∷ "SA" ∷ "SC" ∷ "SF" ∷ "SI" ∷ "SL" ∷ "SM" ∷ "SN" ∷ "SQ" ∷ "ST" ∷ "SU"
    ∷ "TA" ∷ "TC" ∷ "TD" ∷ "TE" ∷ "TG" ∷ "TI" ∷ "TM" ∷ "TP" ∷ "TQ" ∷ "TR" ∷ "TS" ∷ "TT"
    ∷ "UG" ∷ "UV"
    ∷ "VA" ∷ "VC" ∷ "VF" ∷ "VI" ∷ "VM" ∷ "VR" ∷ "VT"
    ∷ "WT" ∷ [])

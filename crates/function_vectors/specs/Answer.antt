-- A line `SET K OPC RAND SQN AMF` and its answer, and what the program writes out for its input. Assumes nothing: these are definitions.
use Rattle.std.specs.Prelude.{ℕ, ◌+◌, ◌-◌, ◌<◌, Bool, ◌&&◌, cond, List, ◌++◌, eqb, leb, get_or, length}
use Rattle.octets.specs.Ascii.{ascii}
use Rattle.octets.specs.Octets.{Octets}
use Rattle.hex_digits.specs.Hex.{hex}
use Rattle.fields.specs.Fields.{hex_field_size, is_hex_field, octets_in}
use Rattle.aka.specs.Layout.{key_size, rand_size, res_size, ck_size, ik_size, sqn_size, amf_size, mac_size}
use Rattle.aka.specs.Functions.{Functions, Keys}
use Rattle.functions.specs.Sets.{is_set, sets}
use Rattle.console.specs.Turns.{Answer, AnswersAll}

-- ---- the line: one digit, then K, OPC, RAND, SQN and AMF in hex, each after a space

-- where these fields begin, and the size of a line: 118 bytes
abbrev pub k_at : ℕ
k_at = 1

abbrev pub opc_at : ℕ
opc_at = k_at + hex_field_size key_size

abbrev pub rand_at : ℕ
rand_at = opc_at + hex_field_size key_size

abbrev pub sqn_at : ℕ
sqn_at = rand_at + hex_field_size rand_size

abbrev pub amf_at : ℕ
amf_at = sqn_at + hex_field_size sqn_size

abbrev pub line_size : ℕ
line_size = amf_at + hex_field_size amf_size

unfoldable pub keys_formed : List ℕ → Bool
keys_formed line =
    leb 48 (get_or line 0 0) && leb (get_or line 0 0) 57 && (is_hex_field key_size k_at line && is_hex_field key_size opc_at line)

unfoldable pub challenge_formed : List ℕ → Bool
challenge_formed line = is_hex_field rand_size rand_at line && (is_hex_field sqn_size sqn_at line && is_hex_field amf_size amf_at line)

unfoldable pub well_formed : List ℕ → Bool
well_formed line = eqb (length line) line_size && (keys_formed line && challenge_formed line)

unfoldable pub keys_on : List ℕ → Keys
keys_on line = record { set = get_or line 0 0 - 48; k = octets_in key_size k_at line; opc = octets_in key_size opc_at line }

-- ---- the answer: MAC, MAC-S, RES, CK, IK, AK and AK* in hex, with a space between

-- the bytes of the first three outputs: 51
abbrev pub macs_size : ℕ
macs_size = hex_field_size mac_size + hex_field_size mac_size + hex_field_size res_size

-- room for every answer: 143
abbrev pub room : ℕ
room = macs_size + hex_field_size ck_size + hex_field_size ik_size + hex_field_size sqn_size + hex_field_size sqn_size

unfoldable pub outputs_text : (mac macs res ck ik ak aks : Octets) → List ℕ
outputs_text mac macs res ck ik ak aks =
    (hex mac ++ ascii " ")
    ++ (hex macs ++ ascii " ")
    ++ (hex res ++ ascii " ")
    ++ (hex ck ++ ascii " ")
    ++ (hex ik ++ ascii " ")
    ++ (hex ak ++ ascii " ")
    ++ (hex aks ++ ascii "\n")

unfoldable pub outputs_of : Functions → (rand sqn amf : Octets) → List ℕ
outputs_of F rand sqn amf =
    outputs_text (F.f1 sqn rand amf) (F.f1* sqn rand amf) (F.f2 rand) (F.f3 rand) (F.f4 rand) (F.f5 rand) (F.f5* rand)

-- the form of a line comes before its set
unfoldable pub answer_text : List ℕ → List ℕ
answer_text line =
    cond (well_formed line)
    (cond (is_set (keys_on line).set)
    (outputs_of (sets.under (keys_on line))
    (octets_in rand_size rand_at line) (octets_in sqn_size sqn_at line) (octets_in amf_size amf_at line))
    (ascii "refused 1\n"))
    (ascii "bad line\n")

-- no line changes the answers to others
unfoldable pub line_answer : Unit {0} → (line : List ℕ) → Answer (Unit {0})
line_answer state line = record { text = answer_text line; after = state }

-- what is written out is the answers to the lines of the input. The line buffer has more bytes than a line that is well formed
abbrev pub Serves : Type 0
Serves = (size room : ℕ) → line_size < size → AnswersAll line_answer tt size room

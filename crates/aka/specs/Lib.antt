-- Authentication and key agreement (TS 33.102 §6.3) on paper: what USIM, AuC, VLR and handset do, and what is promised of them. Read in
-- this order:
--   Layout      octets of AUTN, AUTS, a vector and a triplet; parts of lent octets
--   Functions   f1 to f5*, the keys, and the laws of a family of function sets
--   Sequence    SQN, SEQ, IND, the limit, D, numberings
--   Editions    the editions of the records: the table that all that depends on an edition goes through (document 02, #104)
--   Usim        the card: its record and its answer to a challenge
--   Auc         the centre: its record, an order, a resynchronisation
--   Triplets    vectors made into triplets, for GSM phones (document 02, #102)
--   Vlr         the node: its record and its nine operations
--   Calls       the nine operations of the node as one
--   Demand3     after a synchronisation failure and a resynchronisation the USIM accepts the new batch
--   Runs        a card and a centre over a run of calls: what was given, what was accepted
--   Window      each of the last 50 numbers generated is still accepted (document 02, #104)
--   Table       the worked table of document 01
--   UsimLaws, AucLaws, VlrLaws    the other sentences of document 01 on card, centre and node, as laws
--   OrderOfUse  over every list of calls the node uses each vector and triplet once, oldest first, and holds what was stored and not used
--   Handset     the phone: its store, and its answer to a challenge (document 02, #101)
--   HandsetLaws the sentences of document 02 on it, as laws
--   RepeatedChallenge  over every list of calls at a phone a RAND that comes again is answered again, until the store is cleared or
--               another challenge is accepted
--
-- How to read a definition. `f : A → B` says that f takes an A and gives a B; `f a b` applies it; `λ x. e` is the function that gives e
-- for x; `let x = a in e` is e with x standing for a. `pub`, `abbrev` and `unfoldable` only say who may use and open a definition. A
-- `data` type is one of the cases that it lists. A `record` has named fields: `record { field = a; .. }` makes one and `r.field` reads
-- it. Both are declared `: Type 0`, which is what the library calls a type. `module _ (x : ℕ) ..` fixes what the definitions under it
-- share: outside they take it first.
--   Numbers (`ℕ`) are whole and not negative: `-` stops at 0, `/` and `%` are quotient and remainder, `^` is a power, `max` the larger
-- of two; `suc n` is n + 1 and `zero` is 0, where a definition goes by them. A width, a size, a count, a SEQ, an octet: all are
-- numbers.
--   An octet string (`Octets`) is a list of numbers, the first octet first: `[]` is the empty list, `x ∷ l` the list l with x before
-- it, `x ++ y` one string behind another, `length x` how many octets it has, `part start size x` the `size` octets from place `start`
-- on, `get_or l i 0` the element at place i (0 where there is none), `set l i x` the list with x at place i, `take n x` the first n
-- octets, `drop n x` those behind them, `replicate n x` n times x, `zeros n` n octets of value 0, `xor x y` octet by octet. Places
-- count from 0. `encode n x` is the number x in n octets, `decode` reads it. `Option ℕ` is `some k`, or `none`.
--   Tests (`Bool`) give `true` or `false`: `eqb` equal, `ltb` below, `leb` at most, `equal` of strings; `&&` and, `||` or, `not`. `cond
-- test a b` is a where the test passes, else b: a chain of them reads from the top, and the first test that passes decides.
-- How to read a statement. A statement is a type too, and to prove it is to give something of that type. `≡` equal, `≤` and `<` of
-- numbers, `→` if .. then, `×` and, `⊎` or, `↔` exactly if, `⊥` what cannot be, so that `P → ⊥` is not P, and `Unit` (or `Unit {0}`)
-- what always is; `(x : A) → ..` for every x. A `record` of statements says all of its fields. `Below 256 x`: each element of x is
-- below 256.
pub mod Layout
pub mod Functions
pub mod Sequence
pub mod Editions
pub mod Usim
pub mod Auc
pub mod Triplets
pub mod Vlr
pub mod Calls
pub mod Demand3
pub mod Runs
pub mod Window
pub mod Table
pub mod UsimLaws
pub mod AucLaws
pub mod VlrLaws
pub mod TripletLaws
pub mod OrderOfUse
pub mod Handset
pub mod HandsetLaws
pub mod RepeatedChallenge
pub mod Refusals

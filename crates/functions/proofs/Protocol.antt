-- The protocol's theorems for our editions and the sets of document 01. Assumes nothing.
use Prim.Native.Nat.{◌≤◌}
use mathlib.Core.Bool.{true, and-eq-true_iff}
use mathlib.Core.List.{List}
use mathlib.Core.Path.{◌≡◌}
use Rattle.aka.specs.Demand3.{Each, Setting, Shapes, Premise}
use Rattle.aka.specs.Demand3 as resynchronised
use Rattle.aka.specs.Auc.{Auc, AucShaped, valid_auc}
use Rattle.aka.specs.Runs.{Event, run}
use Rattle.aka.specs.Window.{AllProper, Open, beginning}
use Rattle.aka.specs.Table.{Sample, Proper, Table}
use Rattle.aka.specs.UsimLaws.{UsimPromise}
use Rattle.aka.specs.AucLaws.{AucPromise}
use Rattle.aka.specs.HandsetLaws.{HandsetPromise}
use Rattle.aka.specs.RepeatedChallenge.{Phone, On, Call, CardShaped, together, Conclusion}
use Rattle.aka.proofs.Editions.{fitting, later_wide}
use Rattle.aka.proofs.Outcomes.{valid_iff}
use Rattle.aka.proofs.Window.{window}
use Rattle.aka.proofs.Demand3.{demand3}
use Rattle.aka.proofs.Table.{worked_table}
use Rattle.aka.proofs.UsimLaws.{usim_promise}
use Rattle.aka.proofs.AucLaws.{auc_promise}
use Rattle.aka.proofs.HandsetLaws.{handset_promise}
use Rattle.aka.proofs.RepeatedChallenge.{repeated_challenge}
use Rattle.aka.specs.Editions.{editions, is_edition}
use Rattle.functions.specs.Sets.{is_set, sets}
use Rattle.functions.proofs.Family.{lawful}

pub demand3_holds : (s : Setting) → Shapes editions s → Premise editions sets s → resynchronised.Conclusion editions sets s
demand3_holds = demand3 editions fitting sets lawful

pub window_holds : (auc : Auc) → AucShaped auc → valid_auc editions sets auc ≡ true → 2 ≤ auc.edition
    → (events : List Event) → AllProper editions sets (beginning editions sets auc) events
    → Open editions sets (run editions sets (beginning editions sets auc) events)
unfolding sets
window_holds auc shaped valid late =
    let admitted = ((valid_iff editions sets auc).0 valid).0 in
    let known = ((and-eq-true_iff (is_edition auc.edition) (is_set auc.keys.set)).0 admitted).0 in
    window editions fitting sets lawful auc shaped valid (later_wide auc.edition known late)

pub table_holds : (x : Sample) → Proper sets x → Table sets x
table_holds = worked_table sets lawful

pub usim_holds : UsimPromise editions sets
usim_holds = usim_promise editions sets

pub auc_holds : AucPromise editions sets
auc_holds = auc_promise editions sets

pub handset_holds : HandsetPromise editions sets
handset_holds = handset_promise editions sets

pub repeated_challenge_holds : (phone : Phone) (calls : List (On Call)) → Each (λ x. CardShaped x.what) calls
    → Conclusion editions sets phone (together editions sets phone calls) calls
repeated_challenge_holds = repeated_challenge editions sets lawful

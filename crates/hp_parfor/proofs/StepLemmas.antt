-- A program's own steps, one after the other, and those that are built of nodes.
use Rattle.std.proofs.Common.{◌≡◌, ℕ, ◌+◌, ◌<◌, List, [], ◌∷◌, ◌++◌, take, get_or, length, refl, sym, ap, ◌∙◌}
use Rattle.std.proofs.lemmas.List.{take_more}
use Rattle.std.proofs.lemmas.Result.{on_ok_weaker}
use Rattle.std.specs.Prelude.{Result, OnOk}
use Rattle.hp_program.specs.Programs.{Prog, stop, plain, choose, loop, joined, replaced}
use Rattle.hp_program.proofs.Replaced.{joined_stop, joined_assoc, replaced_joined}
use Rattle.hp_air.specs.declared.node.Node.{Node}
use Rattle.hp_air.specs.declared.node.Node.TheVariants.{Do}
use Rattle.hp_air.specs.declared.node.Node.TheViews as node_views
use Rattle.hp_air.specs.declared.what.Op.{Op}
use Rattle.hp_air.specs.Nodes as air
use Rattle.hp_air.proofs.NodeLemmas.{program_stop, program_plain, program_choose, program_loop, nodes_joined}
use Rattle.hp_parfor.specs.declared.parfor.Parfor.{Parfor}
use Rattle.hp_parfor.specs.declared.parfor.Step.{Step}
use Rattle.hp_parfor.specs.declared.parfor.Step.TheVariants as steps
use Rattle.hp_parfor.specs.declared.parfor.Step.TheViews.{If, While}
use Rattle.hp_parfor.specs.declared.parfor.Step.TheBlock.{hidden-the_row-Step-0}
use Rattle.hp_parfor.specs.Built.{built}
use Rattle.hp_parfor.specs.Parts.{Part, Does, Loops, step_of, row_of, program_of}

-- ---- steps as a program

pub row_steps : (body : List Step) → row_of (hidden-the_row-Step-0 body) ≡ program_of body
unfolding program_of row_of Rattle.hp_parfor.specs.declared.parfor.Step.TheBlock.hidden-the_row-Step-0 denote.Hole.Carrier.hidden
row_steps [] = refl
row_steps (step ∷ rest) = ap (step_of step) (row_steps rest)

pub steps_none : program_of [] ≡ stop
unfolding program_of
steps_none = refl

step_joined : (step : Step) (p q : Prog Part) → step_of step (joined p q) ≡ joined (step_of step p) q
unfolding step_of joined
step_joined (steps.Plain op) p q = refl
step_joined (steps.Loop parfor) p q = refl
step_joined (steps.If' word a first b second) p q = refl
step_joined (steps.While' a test word b body) p q = refl

pub steps_joined : (first second : List Step) → program_of (first ++ second) ≡ joined (program_of first) (program_of second)
unfolding program_of joined
steps_joined [] second = refl
steps_joined (step ∷ first) second = ap (step_of step) (steps_joined first second) ∙ step_joined step (program_of first) (program_of second)

-- ---- one step more

pub plain_pushed : (old new : List Step) (op : Op) → new ≡ old ++ steps.Plain op ∷ [] → program_of new ≡ joined (program_of old) (plain (Does op) stop)
unfolding program_of step_of
plain_pushed old new op is = ap program_of is ∙ steps_joined old (steps.Plain op ∷ [])

pub loop_pushed : (old new : List Step) (p : Parfor) → new ≡ old ++ steps.Loop p ∷ [] → program_of new ≡ joined (program_of old) (plain (Loops p) stop)
unfolding program_of step_of
loop_pushed old new p is = ap program_of is ∙ steps_joined old (steps.Loop p ∷ [])

pub choice_pushed : (old new : List Step) (word : ℕ) (first second : List Step) → new ≡ old ++ If word first second ∷ [] → program_of new ≡ joined (program_of old) (choose word (program_of first) (program_of second) stop)
unfolding program_of step_of
choice_pushed old new word first second is = ap program_of is ∙ steps_joined old (If word first second ∷ []) ∙ rw (row_steps first, row_steps second) refl

pub turns_pushed : (old new : List Step) (test : List Step) (word : ℕ) (body : List Step) → new ≡ old ++ While test word body ∷ [] → program_of new ≡ joined (program_of old) (loop (program_of test) word (program_of body) stop)
unfolding program_of step_of
turns_pushed old new test word body is = ap program_of is ∙ steps_joined old (While test word body ∷ []) ∙ rw (row_steps test, row_steps body) refl

-- two steps, one after the other
pub two_pushed : {T E : Type 0} (r : Result T E) (old mid new first second both : Prog Part) → mid ≡ joined old first → both ≡ joined first second → OnOk r (new ≡ joined mid second) → OnOk r (new ≡ joined old both)
two_pushed r old mid new first second both m b now = on_ok_weaker r (λ n. n ∙ ap (λ (p : Prog Part). joined p second) m ∙ joined_assoc old first second ∙ ap (joined old) (sym b)) now

-- ---- steps that are built of nodes

pub built_none : replaced built (air.program_of []) ≡ stop
unfolding replaced
built_none = rw program_stop refl

pub built_plain : (op : Op) → replaced built (air.program_of (Do op ∷ [])) ≡ built op
unfolding replaced
built_plain op = rw (program_plain op [], program_stop) (joined_stop (built op))

pub built_choice : (word : ℕ) (first second : List Node) → replaced built (air.program_of (node_views.If word first second ∷ [])) ≡ choose word (replaced built (air.program_of first)) (replaced built (air.program_of second)) stop
unfolding replaced
built_choice word first second = rw (program_choose word first second [], program_stop) refl

pub built_turns : (test : List Node) (word : ℕ) (body : List Node) → replaced built (air.program_of (node_views.While test word body ∷ [])) ≡ loop (replaced built (air.program_of test)) word (replaced built (air.program_of body)) stop
unfolding replaced
built_turns test word body = rw (program_loop test word body [], program_stop) refl

-- one node more
pub built_next : (nodes : List Node) (i : ℕ) (node : Node) (mid new : Prog Part) → i < length nodes → node ≡ get_or nodes i node
    → mid ≡ replaced built (air.program_of (take i nodes)) → new ≡ joined mid (replaced built (air.program_of (node ∷ []))) → new ≡ replaced built (air.program_of (take (i + 1) nodes))
built_next nodes i node mid new lt is m n =
    n ∙ ap (λ (p : Prog Part). joined p (replaced built (air.program_of (node ∷ [])))) m
    ∙ sym (replaced_joined built (air.program_of (take i nodes)) (air.program_of (node ∷ []))) ∙ ap (replaced built) (sym (nodes_joined (take i nodes) (node ∷ [])))
    ∙ ap (λ (l : List Node). replaced built (air.program_of l)) (ap (λ (x : Node). take i nodes ++ x ∷ []) is ∙ sym (take_more nodes i node lt))

-- ---- the steps of one node

pub plain_added : {T E : Type 0} (r : Result T E) (op : Op) (node : Node) (old new : Prog Part) → node ≡ Do op
    → OnOk r (new ≡ joined old (built op)) → OnOk r (new ≡ joined old (replaced built (air.program_of (node ∷ []))))
plain_added r op node old new is now =
    on_ok_weaker r (λ n. n ∙ ap (joined old) (sym (ap (λ (x : Node). replaced built (air.program_of (x ∷ []))) is ∙ built_plain op))) now

pub choice_added : {T E : Type 0} (r : Result T E) (word : ℕ) (first second : List Node) (node : Node) (made_first made_second old new : Prog Part) → node ≡ node_views.If word first second
    → made_first ≡ replaced built (air.program_of first) → made_second ≡ replaced built (air.program_of second)
    → OnOk r (new ≡ joined old (choose word made_first made_second stop)) → OnOk r (new ≡ joined old (replaced built (air.program_of (node ∷ []))))
choice_added r word first second node made_first made_second old new is a b now =
    on_ok_weaker r
    (λ n. n ∙ ap (joined old) (ap (λ (p : Prog Part). choose word p made_second stop) a ∙ ap (λ (p : Prog Part). choose word (replaced built (air.program_of first)) p stop) b
    ∙ sym (ap (λ (x : Node). replaced built (air.program_of (x ∷ []))) is ∙ built_choice word first second)))
    now

pub turns_added : {T E : Type 0} (r : Result T E) (test : List Node) (word : ℕ) (body : List Node) (node : Node) (made_test made_body old new : Prog Part) → node ≡ node_views.While test word body
    → made_test ≡ replaced built (air.program_of test) → made_body ≡ replaced built (air.program_of body)
    → OnOk r (new ≡ joined old (loop made_test word made_body stop)) → OnOk r (new ≡ joined old (replaced built (air.program_of (node ∷ []))))
turns_added r test word body node made_test made_body old new is a b now =
    on_ok_weaker r
    (λ n. n ∙ ap (joined old) (ap (λ (p : Prog Part). loop p word made_body stop) a ∙ ap (λ (p : Prog Part). loop (replaced built (air.program_of test)) word p stop) b
    ∙ sym (ap (λ (x : Node). replaced built (air.program_of (x ∷ []))) is ∙ built_turns test word body)))
    now

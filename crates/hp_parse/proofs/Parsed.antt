-- The machine comes to an end, so each list of tokens spells a script, or shows at one token that it spells none.
use Rattle.std.proofs.Common.{◌≡◌, ℕ, zero, suc, ◌<◌, List, [], ◌∷◌, refl, arith}
use Rattle.hp_word.specs.declared.place.Place.{Place}
use Rattle.hp_script.specs.declared.rule.Rule.{Rule}
use Rattle.hp_script.specs.declared.rule.Refusal.{Refusal}
use Rattle.hp_script.specs.declared.token.Token.{Token}
use Rattle.hp_script.specs.declared.tree.Stmt.{Stmt}
use Rattle.hp_script.specs.Lexemes.{Lexed, lexed}
use Rattle.hp_script.specs.OneOfTwo.{OneOfTwo, first_alone, second_alone}
use Rattle.hp_parse.specs.Machine.{Value, stmts, Config, At, Refused, Accepted, finished, step, Leads, too_deep, start}
use Rattle.hp_parse.specs.Parsing.{end_of, IsParsed, IsUnparsed}
use Rattle.hp_parse.proofs.Front.{Known, IsKnown, known_step, known_start}
use Rattle.hp_parse.proofs.Measure.{size}
use Rattle.hp_parse.proofs.MeasuredMoves.{step_less}
use Rattle.hp_parse.proofs.ParseAnswers.{laws}
use Rattle.hp_parse.proofs.RefusedAnswers.{accepted_spelled, accepted_only, refused_none, refused_only, accepted_none}
use Rattle.hp_parse.proofs.RefusedLaws.{refused}
use Rattle.hp_parse.proofs.Runs.{leads_here, leads_then, leads_step}

-- ---- the machine's end

-- The machine accepts or refuses.
data Ended (end : Place) (c : Config) : Type 0 where
  accepts : (body : List Stmt) (nodes : ℕ) → Leads too_deep end c (Accepted body nodes) → Ended end c
  refuses : (place : Place) (rule : Rule) → Leads too_deep end c (Refused place rule) → Ended end c

ended_before : (end : Place) (c : Config) → Ended end (step too_deep end c) → Ended end c
ended_before end c (accepts body nodes leads) = accepts body nodes (leads_then (leads_step too_deep end c) leads)
ended_before end c (refuses place rule leads) = refuses place rule (leads_then (leads_step too_deep end c) leads)

-- nothing is left to do
done_ends : (all : List Lexed) (end : Place) (tokens : List Lexed) (k d : ℕ) (values : List Value) → Known all end tokens k d [] values → Ended end (finished values k)
done_ends all end tokens k d (stmts body ∷ []) h = accepts body k (leads_here too_deep end (Accepted body k))
done_ends all end tokens k d _ h = absurd (let e = h.fits in cc)

-- one step, with what is known of smaller configurations
step_ends : (all : List Lexed) (end : Place) (n : ℕ) (c : Config) → IsKnown all end c → size c < suc n
    → ((next : Config) → IsKnown all end next → size next < n → Ended end next) → Ended end c
unfolding step
step_ends all end n (Accepted body nodes) h less smaller = accepts body nodes (leads_here too_deep end (Accepted body nodes))
step_ends all end n (Refused place rule) h less smaller = refuses place rule (leads_here too_deep end (Refused place rule))
step_ends all end n (At tokens k d [] values) h less smaller = ended_before end (At tokens k d [] values) (done_ends all end tokens k d values h)
step_ends all end n (At tokens k d (goal ∷ stack) values) h less smaller =
    ended_before end (At tokens k d (goal ∷ stack) values)
    (smaller (step too_deep end (At tokens k d (goal ∷ stack) values)) (known_step all end (At tokens k d (goal ∷ stack) values) h)
    (omega (arith, less, step_less end tokens k d goal stack values)))

ends : (all : List Lexed) (end : Place) (n : ℕ) (c : Config) → IsKnown all end c → size c < n → Ended end c
ends all end zero c h less = absurd (omega (arith, less))
ends all end (suc n) c h less = step_ends all end n c h less (λ next known smaller. ends all end n next known smaller)

start_ends : (all : List Lexed) (end : Place) → Ended end (start all)
start_ends all end = ends all end (suc (size (start all))) (start all) (known_start all end) (omega arith)

-- ---- the law

same_script : (body other : List Stmt) (nodes count : ℕ) → (body ≡ other) × (nodes ≡ count) → ◌≡◌ {A = List Stmt × ℕ} (other, count) (body, nodes)
same_script body other nodes count same = rw (same.0, same.1) refl

same_refusal : (at place : Place) (rule broken : Rule) → (at ≡ place) × (rule ≡ broken)
    → ◌≡◌ {A = Refusal} (record { at = place; rule = broken }) (record { at = at; rule = rule })
same_refusal at place rule broken same = rw (same.0, same.1) refl

end_tells : (source : List ℕ) (list : List Token) → Ended (end_of list) (start (lexed source list)) → OneOfTwo (IsParsed source list) (IsUnparsed source list)
end_tells source list (accepts body nodes leads) =
    let both = accepted_spelled laws (lexed source list) (end_of list) body nodes leads in
    let is : IsParsed source list (body, nodes) = record { spelled = both.0; shallow = both.1 } in
    first_alone (body, nodes) is
    (λ other h. same_script body other.0 nodes other.1 (accepted_only laws (lexed source list) (end_of list) body other.0 nodes other.1 leads h.spelled h.shallow))
    (λ refusal h. accepted_none laws (lexed source list) (end_of list) refusal.at refusal.rule body nodes leads h)
end_tells source list (refuses place rule leads) =
    second_alone (record { at = place; rule = rule }) (refused laws (lexed source list) (end_of list) place rule leads)
    (λ other h. same_refusal place other.at rule other.rule (refused_only laws (lexed source list) (end_of list) place other.at rule other.rule leads h))
    (λ script h. refused_none laws (lexed source list) (end_of list) place rule script.0 script.1 leads h.spelled h.shallow)

-- The tokens of a source spell one script, or are refused in one way.
pub one_of_two : (source : List ℕ) (list : List Token) → OneOfTwo (IsParsed source list) (IsUnparsed source list)
one_of_two source list = end_tells source list (start_ends (lexed source list) (end_of list))

-- An argument that begins with a name: the machine takes the name before it knows what the argument is, and where it
-- is an expression goes on from there as the expression does.
use Rattle.std.proofs.Common.{◌≡◌, ℕ, zero, suc, ◌+◌, ◌≤◌, Bool, List, [], ◌∷◌, ◌++◌, length, drop, Option, Some, None, refl, sym, ap, subst, ◌∙◌, arith}
use Rattle.std.specs.Prelude.{◌≢◌}
use Rattle.hp_word.specs.declared.name.Name.{Name}
use Rattle.hp_word.specs.declared.place.Place.{Place}
use Rattle.hp_script.specs.declared.rule.Rule.{Rule}
use Rattle.hp_script.specs.declared.tree.Level.TheVariants.{Disjunction, Conjunction, Comparison, Sum, Product}
use Rattle.hp_script.specs.declared.tree.Expr.{Expr}
use Rattle.hp_script.specs.declared.tree.Arg.{Arg}
use Rattle.hp_script.specs.declared.tree.Arg.TheViews.{Plain, Range, Lambda, Named}
use Rattle.hp_script.specs.declared.token.Sign.{Sign}
use Rattle.hp_script.specs.declared.token.Sign.TheVariants as signs
use Rattle.hp_script.specs.Lexemes.{Lexeme, Numeral, Identifier, Quoted, Word, Mark, Newline, Lexed}
use Rattle.hp_script.specs.Trees.{named}
use Rattle.hp_parse.specs.declared.error.ParseError.{ParseError}
use Rattle.hp_parse.specs.Machine.{Goal, Value, expr, arg, want, make, Phrase, Chain, Argument, AfterArgumentName, AfterArgument, MakePlain, MakeRange, MakeLambda, MakeNamed, Config, At, Takes, Passes, enter, step, run, Leads, too_deep, goes_on_from_name}
use Rattle.hp_parse.specs.Machine.{Refused as off}
use Rattle.hp_parse.specs.Readers.{Reader, next, second, here, behind, behind_at, sign_in, first_of, refusal, config, NoNameBefore, Reaches, Stops}
use Rattle.hp_parse.proofs.Runs.{run_zero, run_suc, leads_then, leads_step}
use Rattle.hp_parse.proofs.Steps.{steps_to, passes_with, reaches_then, stops_after, beside, stops_beside, makes, takes, passes}
use Rattle.hp_parse.proofs.Phrases.{reaches_to, sign_next}

-- ---- a run that is not over yet goes on from its next configuration

after_steps : {is_deep : ℕ → Bool} {end : Place} (a c : Config) → a ≢ c → (n : ℕ) → run is_deep end n a ≡ c → Leads is_deep end (step is_deep end a) c
after_steps {is_deep} {end} a c early zero e = absurd (early (sym (run_zero is_deep end a) ∙ e))
after_steps {is_deep} {end} a c early (suc n) e = record { steps = n; run_is = sym (run_suc is_deep end n a) ∙ e }

after_step : {is_deep : ℕ → Bool} {end : Place} (a c : Config) → a ≢ c → Leads is_deep end a c → Leads is_deep end (step is_deep end a) c
after_step {is_deep} {end} a c early f = after_steps a c early f.steps f.run_is

-- the machine has made more than these values, or refused
abbrev Beyond : List Value → Config → Type 0
Beyond values c = (tokens : List Lexed) (k d : ℕ) (stack : List Goal) → At tokens k d stack values ≢ c

beyond_made : (tokens : List Lexed) (k d : ℕ) (stack : List Goal) (x : Value) (values : List Value) → Beyond values (At tokens k d stack (x ∷ values))
beyond_made tokens k d stack x values ts n m gs e =
    let same : values ≡ x ∷ values = cc in
    absurd (omega (arith, ap (length {A = Value}) same))

beyond_off : (at : Place) (rule : Rule) (values : List Value) → Beyond values (off at rule)
beyond_off at rule values ts n m gs e = absurd cc

abbrev name_token : List ℕ → Place → Lexed
name_token bytes at = record { what = Identifier bytes; at = at }

-- from an expression that begins with a name to what follows the name
down_to_name : (end : Place) (bytes : List ℕ) (at : Place) (rest : List Lexed) (k d : ℕ) (stack : List Goal) (values : List Value) (c : Config) → Beyond values c
    → Leads too_deep end (At (name_token bytes at ∷ rest) k d (want (Chain Disjunction) ∷ want AfterArgument ∷ stack) values) c
    → Leads too_deep end (At rest (suc k) d (goes_on_from_name k at bytes ++ stack) values) c
unfolding step enter
down_to_name end bytes at rest k d stack values c beyond f =
    let next_step : (ts : List Lexed) (n m : ℕ) (gs : List Goal) → Leads too_deep end (At ts n m gs values) c → Leads too_deep end (step too_deep end (At ts n m gs values)) c =
    λ ts n m gs. after_step (At ts n m gs values) c (beyond ts n m gs) in
    let here_ : List Lexed = name_token bytes at ∷ rest in
    next_step _ _ _ _ (next_step _ _ _ _ (next_step _ _ _ _ (next_step _ _ _ _ (next_step _ _ _ _ (next_step _ _ _ _ (next_step _ _ _ _ f))))))

-- ---- an argument that is an expression

-- from an argument to where its expression goes on
argument_name : (end : Place) (bytes : List ℕ) (at : Place) (rest : List Lexed) (k d : ℕ) (stack : List Goal) (values : List Value)
    → step too_deep end (At (name_token bytes at ∷ rest) k d (want Argument ∷ stack) values) ≡ At rest k d (want (AfterArgumentName at bytes) ∷ stack) values
unfolding step enter
argument_name end bytes at rest k d stack values = refl

name_goes_on : (at : Place) (bytes : List ℕ) (o : Option Lexeme) (here_ : Place) (k d : ℕ) → sign_in o ≢ Some signs.Arrow → sign_in o ≢ Some signs.Assign
    → enter (AfterArgumentName at bytes) o here_ k d ≡ Passes (suc k) (goes_on_from_name k at bytes) []
unfolding enter
name_goes_on at bytes (Some (Mark signs.Arrow)) here_ k d a b = absurd (a refl)
name_goes_on at bytes (Some (Mark signs.Assign)) here_ k d a b = absurd (b refl)
name_goes_on at bytes _ here_ k d a b = refl

-- the machine at an argument does what it does at its expression
begins_with : (end : Place) (what : Lexeme) (at : Place) (rest : List Lexed) (k d : ℕ)
    → NoNameBefore signs.Arrow (record { rest = record { what = what; at = at } ∷ rest; number = k; depth = d; end = end })
    → NoNameBefore signs.Assign (record { rest = record { what = what; at = at } ∷ rest; number = k; depth = d; end = end })
    → (stack : List Goal) (values : List Value) (c : Config) → Beyond values c
    → Leads too_deep end (At (record { what = what; at = at } ∷ rest) k d (want (Chain Disjunction) ∷ want AfterArgument ∷ stack) values) c
    → Leads too_deep end (At (record { what = what; at = at } ∷ rest) k d (want Argument ∷ stack) values) c
unfolding enter
begins_with end (Identifier bytes) at rest k d no_arrow no_assign stack values c beyond f =
    let r : Reader = record { rest = rest; number = k; depth = d; end = end } in
    leads_then (steps_to (At (name_token bytes at ∷ rest) k d (want Argument ∷ stack) values) (At rest k d (want (AfterArgumentName at bytes) ∷ stack) values) (argument_name end bytes at rest k d stack values))
    (leads_then (passes_with r (AfterArgumentName at bytes) (suc k) (goes_on_from_name k at bytes) [] (name_goes_on at bytes (next r) (here r) k d (no_arrow bytes refl) (no_assign bytes refl)) stack values)
    (down_to_name end bytes at rest k d stack values c beyond f))
begins_with end what at rest k d no_arrow no_assign stack values c beyond f =
    leads_then (passes_with (record { rest = record { what = what; at = at } ∷ rest; number = k; depth = d; end = end }) Argument k (want (Chain Disjunction) ∷ want AfterArgument ∷ []) [] refl stack values) f

begins : (end : Place) (rest : List Lexed) (k d : ℕ)
    → NoNameBefore signs.Arrow (record { rest = rest; number = k; depth = d; end = end }) → NoNameBefore signs.Assign (record { rest = rest; number = k; depth = d; end = end })
    → (stack : List Goal) (values : List Value) (c : Config) → Beyond values c
    → Leads too_deep end (At rest k d (want (Chain Disjunction) ∷ want AfterArgument ∷ stack) values) c → Leads too_deep end (At rest k d (want Argument ∷ stack) values) c
unfolding enter
begins end [] k d no_arrow no_assign stack values c beyond f =
    leads_then (passes_with (record { rest = []; number = k; depth = d; end = end }) Argument k (want (Chain Disjunction) ∷ want AfterArgument ∷ []) [] refl stack values) f
begins end (token ∷ rest) k d no_arrow no_assign stack values c beyond f = begins_with end token.what token.at rest k d no_arrow no_assign stack values c beyond f

pub expression_read : {r done : Reader} {x : Expr} → NoNameBefore signs.Arrow r → NoNameBefore signs.Assign r
    → Reaches r (want (Chain Disjunction) ∷ []) [] done [] (expr x ∷ []) → Reaches r (want Argument ∷ []) [] done (want AfterArgument ∷ []) (expr x ∷ [])
expression_read {r} {done} {x} no_arrow no_assign f = record {
  leads = λ stack values. begins r.end r.rest r.number r.depth no_arrow no_assign stack values (config done (want AfterArgument ∷ stack) (expr x ∷ values))
      (beyond_made done.rest done.number done.depth (want AfterArgument ∷ stack) (expr x) values) (f.leads (want AfterArgument ∷ stack) values);
  same_end = f.same_end;
  no_longer = f.no_longer;
}

pub expression_stops : {r : Reader} {error : ParseError} → NoNameBefore signs.Arrow r → NoNameBefore signs.Assign r
    → Stops r (want (Chain Disjunction) ∷ []) [] error → Stops r (want Argument ∷ []) [] error
expression_stops {r} {error} no_arrow no_assign f = record {
  leads = λ at rule is stack values. begins r.end r.rest r.number r.depth no_arrow no_assign stack values (off at rule)
      (beyond_off at rule values) (f.leads at rule is (want AfterArgument ∷ stack) values);
}

-- ---- behind an expression

colon_move : (at : Place) (k d : ℕ) → enter AfterArgument (Some (Mark signs.Colon)) at k d ≡ Takes k d (want (Chain Disjunction) ∷ make MakeRange ∷ []) []
unfolding enter
colon_move at k d = refl

no_colon_move : (o : Option Lexeme) (at : Place) (k d : ℕ) → sign_in o ≢ Some signs.Colon → enter AfterArgument o at k d ≡ Passes k (make MakePlain ∷ []) []
unfolding enter
no_colon_move (Some (Mark signs.Colon)) at k d other = absurd (other refl)
no_colon_move _ at k d other = refl

pub colon_taken : {r mid : Reader} → (sign_in (next r) ≡ Some signs.Colon) × (mid ≡ behind r) → Reaches r (want AfterArgument ∷ []) [] mid (want (Chain Disjunction) ∷ make MakeRange ∷ []) []
colon_taken {r} {mid} e =
    reaches_to e.1 (takes r AfterArgument (Mark signs.Colon) r.number r.depth (want (Chain Disjunction) ∷ make MakeRange ∷ []) [] (sign_next (next r) signs.Colon e.0) (colon_move (here r) r.number r.depth))

pub range_read : {r mid done : Reader} {x y : Expr} → (sign_in (next r) ≡ Some signs.Colon) × (mid ≡ behind r)
    → Reaches mid (want (Chain Disjunction) ∷ []) [] done [] (expr y ∷ []) → Reaches r (want AfterArgument ∷ []) (expr x ∷ []) done [] (arg (Range x y) ∷ [])
range_read {r} {mid} {done} {x} {y} e read =
    reaches_then (beside [] (expr x ∷ []) (colon_taken e))
    (reaches_then (beside (make MakeRange ∷ []) (expr x ∷ []) read)
    (makes done MakeRange (expr y ∷ expr x ∷ []) (arg (Range x y) ∷ []) (λ values. refl)))

pub range_stops : {r mid : Reader} {x : Expr} {error : ParseError} → (sign_in (next r) ≡ Some signs.Colon) × (mid ≡ behind r)
    → Stops mid (want (Chain Disjunction) ∷ []) [] error → Stops r (want AfterArgument ∷ []) (expr x ∷ []) error
range_stops {r} {mid} {x} {error} e stops = stops_after (beside [] (expr x ∷ []) (colon_taken e)) (stops_beside (make MakeRange ∷ []) (expr x ∷ []) stops)

pub plain_read : {r new : Reader} {x : Expr} → (sign_in (next r) ≢ Some signs.Colon) × (new ≡ r) → Reaches r (want AfterArgument ∷ []) (expr x ∷ []) new [] (arg (Plain x) ∷ [])
plain_read {r} {new} {x} e =
    reaches_to e.1 (reaches_then (beside [] (expr x ∷ []) (passes r AfterArgument (make MakePlain ∷ []) [] (no_colon_move (next r) (here r) r.number r.depth e.0)))
    (makes r MakePlain (expr x ∷ []) (arg (Plain x) ∷ []) (λ values. refl)))

-- ---- an argument with a name before it

named_move : (bytes : List ℕ) (at : Place) (k d : ℕ) → enter Argument (Some (Identifier bytes)) at k d ≡ Takes k d (want (AfterArgumentName at bytes) ∷ []) []
unfolding enter
named_move bytes at k d = refl

arrow_move : (at : Place) (bytes : List ℕ) (here_ : Place) (k d : ℕ) → enter (AfterArgumentName at bytes) (Some (Mark signs.Arrow)) here_ k d ≡ Takes k d (want (Chain Disjunction) ∷ make (MakeLambda bytes) ∷ []) []
unfolding enter
arrow_move at bytes here_ k d = refl

assign_move : (at : Place) (bytes : List ℕ) (here_ : Place) (k d : ℕ) → enter (AfterArgumentName at bytes) (Some (Mark signs.Assign)) here_ k d ≡ Takes k d (want (Chain Disjunction) ∷ make (MakeNamed bytes at) ∷ []) []
unfolding enter
assign_move at bytes here_ k d = refl

pub arrow_taken : {r mid new : Reader} {bytes : List ℕ} → (next r ≡ Some (Identifier bytes)) × (sign_in (second r) ≡ Some signs.Arrow) → mid ≡ behind r → new ≡ behind mid
    → Reaches r (want Argument ∷ []) [] new (want (Chain Disjunction) ∷ make (MakeLambda bytes) ∷ []) []
arrow_taken {r} {mid} {new} {bytes} e first then =
    reaches_to (then ∙ ap behind first)
    (reaches_then (takes r Argument (Identifier bytes) r.number r.depth (want (AfterArgumentName (here r) bytes) ∷ []) [] e.0 (named_move bytes (here r) r.number r.depth))
    (takes (behind r) (AfterArgumentName (here r) bytes) (Mark signs.Arrow) r.number r.depth (want (Chain Disjunction) ∷ make (MakeLambda bytes) ∷ []) []
    (sign_next (second r) signs.Arrow e.1) (arrow_move (here r) bytes (here (behind r)) r.number r.depth)))

pub assign_taken : {r mid new : Reader} {bytes : List ℕ} → (next r ≡ Some (Identifier bytes)) × (sign_in (second r) ≡ Some signs.Assign) → mid ≡ behind r → new ≡ behind mid
    → Reaches r (want Argument ∷ []) [] new (want (Chain Disjunction) ∷ make (MakeNamed bytes (here r)) ∷ []) []
assign_taken {r} {mid} {new} {bytes} e first then =
    reaches_to (then ∙ ap behind first)
    (reaches_then (takes r Argument (Identifier bytes) r.number r.depth (want (AfterArgumentName (here r) bytes) ∷ []) [] e.0 (named_move bytes (here r) r.number r.depth))
    (takes (behind r) (AfterArgumentName (here r) bytes) (Mark signs.Assign) r.number r.depth (want (Chain Disjunction) ∷ make (MakeNamed bytes (here r)) ∷ []) []
    (sign_next (second r) signs.Assign e.1) (assign_move (here r) bytes (here (behind r)) r.number r.depth)))

pub lambda_read : {r mid new done : Reader} {bytes : List ℕ} {name : Name} {x : Expr} → (next r ≡ Some (Identifier bytes)) × (sign_in (second r) ≡ Some signs.Arrow) → mid ≡ behind r → new ≡ behind mid
    → Reaches new (want (Chain Disjunction) ∷ []) [] done [] (expr x ∷ []) → name.bytes ≡ bytes → Reaches r (want Argument ∷ []) [] done [] (arg (Lambda name x) ∷ [])
lambda_read {r} {mid} {new} {done} {bytes} {name} {x} e first then read is =
    let same : named bytes ≡ name = ap named (sym is) in
    subst (λ (n : Name). Reaches r (want Argument ∷ []) [] done [] (arg (Lambda n x) ∷ [])) same
    (reaches_then (arrow_taken e first then) (reaches_then (beside (make (MakeLambda bytes) ∷ []) [] read)
    (makes done (MakeLambda bytes) (expr x ∷ []) (arg (Lambda (named bytes) x) ∷ []) (λ values. refl))))

pub given_read : {r mid new done : Reader} {bytes : List ℕ} {name : Name} {at : Place} {x : Expr} → (next r ≡ Some (Identifier bytes)) × (sign_in (second r) ≡ Some signs.Assign) → mid ≡ behind r → new ≡ behind mid
    → at ≡ here r → Reaches new (want (Chain Disjunction) ∷ []) [] done [] (expr x ∷ []) → name.bytes ≡ bytes → Reaches r (want Argument ∷ []) [] done [] (arg (Named name at x) ∷ [])
given_read {r} {mid} {new} {done} {bytes} {name} {at} {x} e first then place read is =
    let same : named bytes ≡ name = ap named (sym is) in
    rw place (subst (λ (n : Name). Reaches r (want Argument ∷ []) [] done [] (arg (Named n (here r) x) ∷ [])) same
    (reaches_then (assign_taken e first then) (reaches_then (beside (make (MakeNamed bytes (here r)) ∷ []) [] read)
    (makes done (MakeNamed bytes (here r)) (expr x ∷ []) (arg (Named (named bytes) (here r) x) ∷ []) (λ values. refl)))))

-- The machine follows what the grammar spells: whole scripts. So they have one reading.
use Rattle.std.proofs.Common.{◌≡◌, ℕ, List, [], ◌∷◌, ◌++◌, refl, sym, ◌∙◌, append_assoc}
use Rattle.std.proofs.lemmas.List.{append-nil}
use Rattle.hp_word.specs.declared.place.Place.{Place}
use Rattle.hp_script.specs.declared.tree.Stmt.{Stmt}
use Rattle.hp_script.specs.Lexemes.{Lexed}
use Rattle.hp_script.specs.Grammar as grammar
use Rattle.hp_script.specs.Grammar.{Spells, IsStmt, IsBody}
use Rattle.hp_parse.specs.Machine.{Statement, Body, AfterStatement, want, stmts, At, Accepted, step, enter, run, never, Leads, start}
use Rattle.hp_parse.proofs.Moves.{leads_on, leads_once, accepted_stays}
use Rattle.hp_parse.proofs.FollowedStmt.{followed_statement}

module _ (end : Place) (body : List Stmt) (nodes : ℕ) where
  -- from here, with these statements made, the machine goes on to the script
  abbrev GoesBody : List Lexed → ℕ → List Stmt → Type 0
  GoesBody a k xs = (d : ℕ) → Leads never end (At a k d (want Body ∷ []) (stmts xs ∷ [])) (Accepted body nodes)

  goes_body_more : {a b : List Lexed} {k l : ℕ} {x : Stmt} → IsStmt a k x b l → (xs : List Stmt)
      → ((d : ℕ) → Leads never end (At a k d (want Statement ∷ want (AfterStatement d) ∷ []) (stmts xs ∷ [])) (Accepted body nodes)) → GoesBody a k xs
  unfolding step enter
  goes_body_more (grammar.assign x) xs g d = leads_on (g d)
  goes_body_more (grammar.print x) xs g d = leads_on (g d)
  goes_body_more (grammar.export x) xs g d = leads_on (g d)
  goes_body_more (grammar.if_alone x y) xs g d = leads_on (g d)
  goes_body_more (grammar.if_else x y z) xs g d = leads_on (g d)
  goes_body_more (grammar.while x y) xs g d = leads_on (g d)

  -- no goal is left
  goes_finished : (a : List Lexed) (k d : ℕ) (xs : List Stmt) → xs ≡ body → k ≡ nodes → Leads never end (At a k d [] (stmts xs ∷ [])) (Accepted body nodes)
  unfolding step run
  goes_finished a k d xs same count = record { steps = 1; run_is = cc }

  followed_body : {a : List Lexed} {k l : ℕ} {ys : List Stmt} → IsBody a k ys l → (xs : List Stmt) → xs ++ ys ≡ body → l ≡ nodes → GoesBody a k xs
  unfolding step enter
  followed_body (grammar.body_ends {k}) xs same count = λ d. leads_on (goes_finished [] k d xs (sym (append-nil xs) ∙ same) count)
  followed_body (grammar.body_line more) xs same count = λ d. leads_on (followed_body more xs same count d)
  followed_body (grammar.body_last {stmt = x} {l} x_spelled) xs same count =
      goes_body_more x_spelled xs
      (λ d. followed_statement end body nodes x_spelled (want (AfterStatement d) ∷ []) (stmts xs ∷ []) refl
      (λ f. leads_on (leads_on (goes_finished [] l f (xs ++ x ∷ []) same count))) d)
  followed_body (grammar.body_more {stmt = x} {stmts = ys} x_spelled more) xs same count =
      goes_body_more x_spelled xs
      (λ d. followed_statement end body nodes x_spelled (want (AfterStatement d) ∷ []) (stmts xs ∷ []) refl
      (λ f. leads_on (leads_on (followed_body more (xs ++ x ∷ []) (append_assoc xs (x ∷ []) ys ∙ same) count d))) d)

accepted_same : (body other : List Stmt) (nodes count : ℕ) → Accepted body nodes ≡ Accepted other count → (body ≡ other) × (nodes ≡ count)
accepted_same body other nodes count e = (cc, cc)

-- what the grammar spells, the machine reads
pub followed : (end : Place) (tokens : List Lexed) (body : List Stmt) (nodes : ℕ) → Spells tokens body nodes → Leads never end (start tokens) (Accepted body nodes)
followed end tokens body nodes spelled = followed_body end body nodes spelled [] refl refl 0

-- tokens spell one script at most
pub spelled_once : (tokens : List Lexed) (body other : List Stmt) (nodes count : ℕ) → Spells tokens body nodes → Spells tokens other count → (body ≡ other) × (nodes ≡ count)
spelled_once tokens body other nodes count spelled spelled_too =
    let nowhere : Place = record { line = 0; col = 0 } in
    let same = leads_once (accepted_stays never nowhere body nodes) (accepted_stays never nowhere other count) (followed nowhere tokens body nodes spelled) (followed nowhere tokens other count spelled_too) in
    accepted_same body other nodes count same

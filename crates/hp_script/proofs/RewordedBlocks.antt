-- The lexemes of the canonical text of statements spell statements like them, wherever they stand.
use Rattle.std.proofs.Common.{◌≡◌, ℕ, List, [], ◌∷◌, ◌++◌, refl, sym, ap, subst, ◌∙◌}
use Rattle.hp_word.specs.declared.place.Place.{Place}
use Rattle.hp_script.specs.declared.tree.Stmt.{Stmt}
use Rattle.hp_script.specs.declared.tree.Stmt.TheVariants.{Assign, Print, Export}
use Rattle.hp_script.specs.declared.tree.Stmt.TheViews.{If, While}
use Rattle.hp_script.specs.declared.token.Keyword.TheVariants as keywords
use Rattle.hp_script.specs.declared.token.Sign.TheVariants as signs
use Rattle.hp_script.specs.Lexemes.{Identifier, Word, Mark, Newline, Lexed}
use Rattle.hp_script.specs.Grammar as grammar
use Rattle.hp_script.specs.Grammar.{token, mark, IsStmt, IsBlock, IsBody}
use Rattle.hp_script.specs.Trees.{named as name_of}
use Rattle.hp_script.specs.Mirror.{Tree, Block, done, assign, print, export, choose, loop, tree_of, block_of}
use Rattle.hp_script.proofs.Bare.{no_place, bare, bare_block}
use Rattle.hp_script.proofs.MirrorLemmas.{block_done, block_assign, block_print, block_export, block_choose, block_loop}
use Rattle.hp_script.proofs.Wording.{said_in, else_said, said_of, Says, nothing, one, parts}
use Rattle.hp_script.proofs.Rewording.{HasSigns, DerivesExpr, expression_said}

-- the sign of each operator with one operand is a sign of the grammar
abbrev pub BlockHasSigns : Block → Type 0
BlockHasSigns done = Unit {0}
BlockHasSigns (assign at name x rest) = HasSigns x × BlockHasSigns rest
BlockHasSigns (print at x rest) = HasSigns x × BlockHasSigns rest
BlockHasSigns (export at x rest) = HasSigns x × BlockHasSigns rest
BlockHasSigns (choose at test body other rest) = HasSigns test × BlockHasSigns body × BlockHasSigns other × BlockHasSigns rest
BlockHasSigns (loop at test body rest) = HasSigns test × BlockHasSigns body × BlockHasSigns rest

-- statements like those of a block
pub record DerivesBlock (a : List Lexed) (k : ℕ) (block : Block) (b : List Lexed) : Type 0 where
  pub body : List Stmt
  pub next : ℕ
  pub derived : IsBlock a k body b next
  pub alike : bare_block block ≡ bare_block (block_of body)

abbrev pub BlockDerivable : Block → Type 0
BlockDerivable block = (a b : List Lexed) → Says a (said_of block) b → (k : ℕ) → DerivesBlock a k block b

done_derived : BlockDerivable done
unfolding bare_block
done_derived a b nothing k = record { body = []; next = k; derived = grammar.block_ends; alike = sym (ap bare_block block_done) }

-- ---- an assignment and the statements behind it

assign_behind : (at place : Place) (name : List ℕ) (x : Tree) (rest : Block) (c : List Lexed) (sign : Place) (a : List Lexed) (k : ℕ) (m b : List Lexed) → DerivesExpr a k x m → BlockDerivable rest
    → Says m (Newline ∷ said_of rest) b → DerivesBlock (token (Identifier name) place ∷ mark signs.Assign sign ∷ a) k (assign at name x rest) b
unfolding bare_block
assign_behind at place name x rest c sign a k m b first d (one {a = more} line said) =
    let h = d more b said first.next in
    record {
      body = Assign place (name_of name) first.tree ∷ h.body;
      next = h.next;
      derived = grammar.block_more (grammar.assign first.derived) h.derived;
      alike = ap (λ (t : Tree). assign no_place name t (bare_block rest)) first.alike ∙ ap (assign no_place name (bare (tree_of first.tree))) h.alike
          ∙ sym (ap bare_block (block_assign place (name_of name) first.tree h.body));
    }

assign_derived : (at : Place) (name : List ℕ) (x : Tree) (rest : Block) → HasSigns x → BlockDerivable rest → BlockDerivable (assign at name x rest)
assign_derived at name x rest w d a b (one place (one {a = c} sign said)) k =
    let p = parts (said_in x) (Newline ∷ said_of rest) said in
    assign_behind at place name x rest c sign c k p.mid b (expression_said x c k p.mid w p.left) d p.right

-- ---- a print or an export

print_behind : (at place open_ : Place) (x : Tree) (rest : Block) (a : List Lexed) (k : ℕ) (m b : List Lexed) → DerivesExpr a k x m → BlockDerivable rest
    → Says m (Mark signs.Close ∷ Newline ∷ said_of rest) b → DerivesBlock (token (Word keywords.Println) place ∷ mark signs.Open open_ ∷ a) k (print at x rest) b
unfolding bare_block
print_behind at place open_ x rest a k m b first d (one close (one {a = more} line said)) =
    let h = d more b said first.next in
    record {
      body = Print place first.tree ∷ h.body;
      next = h.next;
      derived = grammar.block_more (grammar.print first.derived) h.derived;
      alike = ap (λ (t : Tree). print no_place t (bare_block rest)) first.alike ∙ ap (print no_place (bare (tree_of first.tree))) h.alike
          ∙ sym (ap bare_block (block_print place first.tree h.body));
    }

print_derived : (at : Place) (x : Tree) (rest : Block) → HasSigns x → BlockDerivable rest → BlockDerivable (print at x rest)
print_derived at x rest w d a b (one place (one {a = c} open_ said)) k =
    let p = parts (said_in x) (Mark signs.Close ∷ Newline ∷ said_of rest) said in
    print_behind at place open_ x rest c k p.mid b (expression_said x c k p.mid w p.left) d p.right

export_behind : (at place open_ : Place) (x : Tree) (rest : Block) (a : List Lexed) (k : ℕ) (m b : List Lexed) → DerivesExpr a k x m → BlockDerivable rest
    → Says m (Mark signs.Close ∷ Newline ∷ said_of rest) b → DerivesBlock (token (Word keywords.WriteCsv) place ∷ mark signs.Open open_ ∷ a) k (export at x rest) b
unfolding bare_block
export_behind at place open_ x rest a k m b first d (one close (one {a = more} line said)) =
    let h = d more b said first.next in
    record {
      body = Export place first.tree ∷ h.body;
      next = h.next;
      derived = grammar.block_more (grammar.export first.derived) h.derived;
      alike = ap (λ (t : Tree). export no_place t (bare_block rest)) first.alike ∙ ap (export no_place (bare (tree_of first.tree))) h.alike
          ∙ sym (ap bare_block (block_export place first.tree h.body));
    }

export_derived : (at : Place) (x : Tree) (rest : Block) → HasSigns x → BlockDerivable rest → BlockDerivable (export at x rest)
export_derived at x rest w d a b (one place (one {a = c} open_ said)) k =
    let p = parts (said_in x) (Mark signs.Close ∷ Newline ∷ said_of rest) said in
    export_behind at place open_ x rest c k p.mid b (expression_said x c k p.mid w p.left) d p.right

-- ---- a loop

loop_end : (at place line : Place) (test : Tree) (body rest : Block) (a : List Lexed) (k : ℕ) (m n b : List Lexed) (first : DerivesExpr a k test (token Newline line ∷ m)) (inner : DerivesBlock m first.next body n)
    → BlockDerivable rest → Says n (Word keywords.End ∷ Newline ∷ said_of rest) b → DerivesBlock (token (Word keywords.While) place ∷ a) k (loop at test body rest) b
unfolding bare_block
loop_end at place line test body rest a k m n b first inner d (one end (one {a = more} line_too said)) =
    let h = d more b said inner.next in
    record {
      body = While place first.tree inner.body ∷ h.body;
      next = h.next;
      derived = grammar.block_more (grammar.while first.derived inner.derived) h.derived;
      alike = ap (λ (t : Tree). loop no_place t (bare_block body) (bare_block rest)) first.alike ∙ ap (λ (t : Block). loop no_place (bare (tree_of first.tree)) t (bare_block rest)) inner.alike
          ∙ ap (loop no_place (bare (tree_of first.tree)) (bare_block (block_of inner.body))) h.alike ∙ sym (ap bare_block (block_loop place first.tree inner.body h.body));
    }

loop_body : (at place : Place) (test : Tree) (body rest : Block) (a : List Lexed) (k : ℕ) (m b : List Lexed) → DerivesExpr a k test m → BlockDerivable body → BlockDerivable rest
    → Says m (Newline ∷ (said_of body ++ Word keywords.End ∷ Newline ∷ said_of rest)) b → DerivesBlock (token (Word keywords.While) place ∷ a) k (loop at test body rest) b
loop_body at place test body rest a k m b first e d (one {a = inside} line said) =
    let p = parts (said_of body) (Word keywords.End ∷ Newline ∷ said_of rest) said in
    loop_end at place line test body rest a k inside p.mid b first (e inside p.mid p.left first.next) d p.right

loop_derived : (at : Place) (test : Tree) (body rest : Block) → HasSigns test → BlockDerivable body → BlockDerivable rest → BlockDerivable (loop at test body rest)
loop_derived at test body rest w e d a b (one {a = c} place said) k =
    let p = parts (said_in test) (Newline ∷ (said_of body ++ Word keywords.End ∷ Newline ∷ said_of rest)) said in
    loop_body at place test body rest c k p.mid b (expression_said test c k p.mid w p.left) e d p.right

-- ---- a choice

choose_alone : (at place line : Place) (test : Tree) (body rest : Block) (a : List Lexed) (k : ℕ) (m n b : List Lexed) (first : DerivesExpr a k test (token Newline line ∷ m)) (inner : DerivesBlock m first.next body n)
    → BlockDerivable rest → Says n (Word keywords.End ∷ Newline ∷ said_of rest) b → DerivesBlock (token (Word keywords.If) place ∷ a) k (choose at test body done rest) b
unfolding bare_block
choose_alone at place line test body rest a k m n b first inner d (one end (one {a = more} line_too said)) =
    let h = d more b said inner.next in
    record {
      body = If place first.tree inner.body [] ∷ h.body;
      next = h.next;
      derived = grammar.block_more (grammar.if_alone first.derived inner.derived) h.derived;
      alike = ap (λ (t : Tree). choose no_place t (bare_block body) done (bare_block rest)) first.alike
          ∙ ap (λ (t : Block). choose no_place (bare (tree_of first.tree)) t done (bare_block rest)) inner.alike
          ∙ ap (λ (t : Block). choose no_place (bare (tree_of first.tree)) (bare_block (block_of inner.body)) t (bare_block rest)) (sym (ap bare_block block_done))
          ∙ ap (choose no_place (bare (tree_of first.tree)) (bare_block (block_of inner.body)) (bare_block (block_of []))) h.alike
          ∙ sym (ap bare_block (block_choose place first.tree inner.body [] h.body));
    }

choose_else : (at place line else_ line_else : Place) (test : Tree) (body other rest : Block) (a : List Lexed) (k : ℕ) (m n o b : List Lexed) (first : DerivesExpr a k test (token Newline line ∷ m))
    (inner : DerivesBlock m first.next body (token (Word keywords.Else) else_ ∷ token Newline line_else ∷ n)) (second : DerivesBlock n inner.next other o)
    → BlockDerivable rest → Says o (Word keywords.End ∷ Newline ∷ said_of rest) b → DerivesBlock (token (Word keywords.If) place ∷ a) k (choose at test body other rest) b
unfolding bare_block
choose_else at place line else_ line_else test body other rest a k m n o b first inner second d (one end (one {a = more} line_too said)) =
    let h = d more b said second.next in
    record {
      body = If place first.tree inner.body second.body ∷ h.body;
      next = h.next;
      derived = grammar.block_more (grammar.if_else first.derived inner.derived second.derived) h.derived;
      alike = ap (λ (t : Tree). choose no_place t (bare_block body) (bare_block other) (bare_block rest)) first.alike
          ∙ ap (λ (t : Block). choose no_place (bare (tree_of first.tree)) t (bare_block other) (bare_block rest)) inner.alike
          ∙ ap (λ (t : Block). choose no_place (bare (tree_of first.tree)) (bare_block (block_of inner.body)) t (bare_block rest)) second.alike
          ∙ ap (choose no_place (bare (tree_of first.tree)) (bare_block (block_of inner.body)) (bare_block (block_of second.body))) h.alike
          ∙ sym (ap bare_block (block_choose place first.tree inner.body second.body h.body));
    }

-- with a second block
choose_two : (at place line : Place) (test : Tree) (body other rest : Block) (a : List Lexed) (k : ℕ) (m n b : List Lexed) (first : DerivesExpr a k test (token Newline line ∷ m)) (inner : DerivesBlock m first.next body n)
    → BlockDerivable other → BlockDerivable rest → Says n (Word keywords.Else ∷ Newline ∷ said_of other ++ Word keywords.End ∷ Newline ∷ said_of rest) b
    → DerivesBlock (token (Word keywords.If) place ∷ a) k (choose at test body other rest) b
choose_two at place line test body other rest a k m n b first inner e d (one else_ (one {a = inside} line_else said)) =
    let p = parts (said_of other) (Word keywords.End ∷ Newline ∷ said_of rest) said in
    choose_else at place line else_ line_else test body other rest a k m inside p.mid b first inner (e inside p.mid p.left inner.next) d p.right

choose_by : (at place line : Place) (test : Tree) (body other rest : Block) (a : List Lexed) (k : ℕ) (m n b : List Lexed) (first : DerivesExpr a k test (token Newline line ∷ m)) (inner : DerivesBlock m first.next body n)
    → BlockDerivable other → BlockDerivable rest → Says n (else_said other (said_of other) ++ Word keywords.End ∷ Newline ∷ said_of rest) b
    → DerivesBlock (token (Word keywords.If) place ∷ a) k (choose at test body other rest) b
choose_by at place line test body done rest a k m n b first inner e d said = choose_alone at place line test body rest a k m n b first inner d said
choose_by at place line test body (assign u v w x) rest a k m n b first inner e d said = choose_two at place line test body (assign u v w x) rest a k m n b first inner e d said
choose_by at place line test body (print u v w) rest a k m n b first inner e d said = choose_two at place line test body (print u v w) rest a k m n b first inner e d said
choose_by at place line test body (export u v w) rest a k m n b first inner e d said = choose_two at place line test body (export u v w) rest a k m n b first inner e d said
choose_by at place line test body (choose u v w x y) rest a k m n b first inner e d said = choose_two at place line test body (choose u v w x y) rest a k m n b first inner e d said
choose_by at place line test body (loop u v w x) rest a k m n b first inner e d said = choose_two at place line test body (loop u v w x) rest a k m n b first inner e d said

choose_body : (at place : Place) (test : Tree) (body other rest : Block) (a : List Lexed) (k : ℕ) (m b : List Lexed) → DerivesExpr a k test m → BlockDerivable body → BlockDerivable other → BlockDerivable rest
    → Says m (Newline ∷ (said_of body ++ (else_said other (said_of other) ++ Word keywords.End ∷ Newline ∷ said_of rest))) b → DerivesBlock (token (Word keywords.If) place ∷ a) k (choose at test body other rest) b
choose_body at place test body other rest a k m b first c e d (one {a = inside} line said) =
    let p = parts (said_of body) (else_said other (said_of other) ++ Word keywords.End ∷ Newline ∷ said_of rest) said in
    choose_by at place line test body other rest a k inside p.mid b first (c inside p.mid p.left first.next) e d p.right

choose_derived : (at : Place) (test : Tree) (body other rest : Block) → HasSigns test → BlockDerivable body → BlockDerivable other → BlockDerivable rest → BlockDerivable (choose at test body other rest)
choose_derived at test body other rest w c e d a b (one {a = inside} place said) k =
    let p = parts (said_in test) (Newline ∷ (said_of body ++ (else_said other (said_of other) ++ Word keywords.End ∷ Newline ∷ said_of rest))) said in
    choose_body at place test body other rest inside k p.mid b (expression_said test inside k p.mid w p.left) c e d p.right

-- ---- all statements

block_derivable : (block : Block) → BlockHasSigns block → BlockDerivable block
block_derivable done w = done_derived
block_derivable (assign at name x rest) w = assign_derived at name x rest w.0 (block_derivable rest w.1)
block_derivable (print at x rest) w = print_derived at x rest w.0 (block_derivable rest w.1)
block_derivable (export at x rest) w = export_derived at x rest w.0 (block_derivable rest w.1)
block_derivable (choose at test body other rest) w = choose_derived at test body other rest w.0 (block_derivable body w.1) (block_derivable other w.2) (block_derivable rest w.3)
block_derivable (loop at test body rest) w = loop_derived at test body rest w.0 (block_derivable body w.1) (block_derivable rest w.2)

-- ---- scripts

-- a block with nothing behind it is a script
whole_body : {a b : List Lexed} {k l : ℕ} {body : List Stmt} → IsBlock a k body b l → b ≡ [] → IsBody a k body l
whole_body (grammar.block_ends {k = k}) e = subst (λ (t : List Lexed). IsBody t k [] k) (sym e) grammar.body_ends
whole_body (grammar.block_line h) e = grammar.body_line (whole_body h e)
whole_body (grammar.block_more first more) e = grammar.body_more first (whole_body more e)

-- a script like a block, spelled by all of the tokens
pub record Respelled (tokens : List Lexed) (block : Block) : Type 0 where
  pub other : List Stmt
  pub nodes : ℕ
  pub spelled : IsBody tokens 0 other nodes
  pub alike : bare_block block ≡ bare_block (block_of other)

pub respelled : (block : Block) (tokens : List Lexed) → BlockHasSigns block → Says tokens (said_of block) [] → Respelled tokens block
respelled block tokens w h =
    let d = block_derivable block w tokens [] h 0 in
    record { other = d.body; nodes = d.next; spelled = whole_body d.derived refl; alike = d.alike }

-- A reader's records, one after the other, are those of its text.
use denote.Ref.{Bor}
use Rattle.std.proofs.Common.{◌≡◌, ℕ, zero, suc, ◌+◌, ◌<◌, ◌≤◌, Bool, true, false, List, [], ◌∷◌, ◌++◌, length, Option, Some, None, Result, Ok, Err, refl, ap, arith, subst}
use Rattle.std.specs.Prelude.{if◌then◌else◌, IsSome, ◌==◌, ◌&&◌}
use Rattle.std.proofs.lemmas.Bool.{false≢true}
use Rattle.csv.specs.Machine.{Read, after_end, ends_at_end, ends_with, field_after, fields_after, in_field, is_byte, is_end, next_record, start_field, start_record, step}
use Rattle.csv.specs.Reading.{NextIs, ReadRecord, ReadsNext, default_config, has_failed, pending_of, records, records_from, stops_reader, ExplainsRead}
use Rattle.csv.specs.declared.parser.Action.{Action}
use Rattle.csv.specs.declared.parser.Action.TheVariants as act
use Rattle.csv.specs.declared.parser.Config.{Config}
use Rattle.csv.specs.declared.parser.State.{State}
use Rattle.csv.specs.declared.parser.State.TheVariants as st
use Rattle.csv.specs.declared.parser.Terminator.{Terminator}
use Rattle.csv.specs.declared.parser.Terminator.TheVariants as term
use Rattle.csv.specs.declared.reader.Reader.{Reader}
use Rattle.csv.specs.declared.error.Error.{Error}
use Rattle.csv.specs.declared.error.ErrorKind.{ErrorKind}
use Rattle.csv.specs.declared.error.ErrorKind.TheVariants as kind
use Rattle.hp_tables.specs.RecordsLeft.{IsGoing, left_from, records_left, text_left}

-- ---- a record ends between two records, and with no more text than before

after_end_between : (t : Terminator) (c : ℕ) → ends_at_end (after_end t c) ≡ false
after_end_between term.CRLF c = by (c == 13)
  where
    by : (b : Bool) → ends_at_end (if b then st.AfterCr else st.StartRecord) ≡ false
    by true = refl
    by false = refl
after_end_between (term.Any t) c = refl

-- what a step does where it is one of these
abbrev EndsBetween : State × Action → Type 0
EndsBetween p = is_end p.1 ≡ true → ends_at_end p.0 ≡ false

in_field_between : (cfg : Config) (c : ℕ) → EndsBetween (in_field cfg c)
in_field_between cfg c = by (c == cfg.delimiter) (ends_with cfg.terminator c)
  where
    by : (a b : Bool) → EndsBetween (if a then (st.StartField, act.EndField) else if b then (after_end cfg.terminator c, act.EndRecord) else (st.InField, act.Copy))
    by true b = λ e. cc e
    by false true = λ e. after_end_between cfg.terminator c
    by false false = λ e. cc e

start_field_between : (cfg : Config) (c : ℕ) → EndsBetween (start_field cfg c)
start_field_between cfg c = by (cfg.quoting && (c == cfg.quote))
  where
    by : (a : Bool) → EndsBetween (if a then (st.InQuoted, act.Skip) else in_field cfg c)
    by true = λ e. cc e
    by false = in_field_between cfg c

start_record_between : (cfg : Config) (c : ℕ) → EndsBetween (start_record cfg c)
start_record_between cfg c = by (ends_with cfg.terminator c) (is_byte cfg.comment c)
  where
    by : (a b : Bool) → EndsBetween (if a then (st.StartRecord, act.Skip) else if b then (st.InComment, act.Skip) else start_field cfg c)
    by true b = λ e. refl
    by false true = λ e. cc e
    by false false = start_field_between cfg c

step_between : (cfg : Config) (s : State) (c : ℕ) → EndsBetween (step cfg s c)
step_between cfg st.StartRecord c = start_record_between cfg c
step_between cfg st.StartField c = start_field_between cfg c
step_between cfg st.InField c = in_field_between cfg c
step_between cfg st.InQuoted c = by (cfg.quoting && (c == cfg.quote)) (cfg.quoting && is_byte cfg.escape c)
  where
    by : (a b : Bool) → EndsBetween (if a then (st.AfterQuote, act.Skip) else if b then (st.InEscape, act.Skip) else (st.InQuoted, act.Copy))
    by true b = λ e. cc e
    by false true = λ e. cc e
    by false false = λ e. cc e
step_between cfg st.InEscape c = λ e. cc e
step_between cfg st.AfterQuote c = by (cfg.quoting && cfg.double_quote && (c == cfg.quote))
  where
    by : (a : Bool) → EndsBetween (if a then (st.InQuoted, act.Copy) else in_field cfg c)
    by true = λ e. cc e
    by false = in_field_between cfg c
step_between cfg st.InComment c = by (c == 10)
  where
    by : (a : Bool) → EndsBetween (if a then (st.StartRecord, act.Skip) else (st.InComment, act.Skip))
    by true = λ e. refl
    by false = λ e. cc e
step_between cfg st.AfterCr c = by (c == 10)
  where
    by : (a : Bool) → EndsBetween (if a then (st.StartRecord, act.Skip) else start_record cfg c)
    by true = λ e. refl
    by false = start_record_between cfg c

-- what a record leaves: a state between two records, and no more text than there was
record Leaves (xs : List ℕ) (p : Read) : Type 0 where
  between : ends_at_end p.1 ≡ false
  shorter : length p.2 ≤ length xs

some_read : (p q : Read) → Some p ≡ Some q → p ≡ q
some_read p q e = cc e

leaves : (cfg : Config) (s : State) (fields : List (List ℕ)) (field xs : List ℕ) (p : Read) → next_record cfg s fields field xs ≡ Some p → Leaves xs p
unfolding next_record
leaves cfg s fields field [] p e = by (ends_at_end s) e
  where
    by : (b : Bool) → (if b then Some (fields ++ (field ∷ []), st.StartRecord, []) else None) ≡ Some p → Leaves [] p
    by true f = subst (λ (q : Read). Leaves [] q) (some_read _ p f) (record { between = refl; shorter = omega arith })
    by false f = cc f
leaves cfg s fields field (c ∷ rest) p e = by (is_end (step cfg s c).1) refl e (leaves cfg (step cfg s c).0 (fields_after (step cfg s c).1 fields field) (field_after (step cfg s c).1 c field) rest p)
  where
    by : (b : Bool) → is_end (step cfg s c).1 ≡ b
        → (if b then Some (fields_after (step cfg s c).1 fields field, (step cfg s c).0, rest) else next_record cfg (step cfg s c).0 (fields_after (step cfg s c).1 fields field) (field_after (step cfg s c).1 c field) rest) ≡ Some p
        → (next_record cfg (step cfg s c).0 (fields_after (step cfg s c).1 fields field) (field_after (step cfg s c).1 c field) rest ≡ Some p → Leaves rest p)
        → Leaves (c ∷ rest) p
    by true ends f more = subst (λ (q : Read). Leaves (c ∷ rest) q) (some_read _ p f) (record { between = step_between cfg s c ends; shorter = omega arith })
    by false ends f more = let l = more f in record { between = l.between; shorter = omega (arith, l.shorter) }

-- a record that begins between two records takes some text
takes : (cfg : Config) (s : State) (xs : List ℕ) (p : Read) → ends_at_end s ≡ false → next_record cfg s [] [] xs ≡ Some p → length p.2 < length xs
unfolding next_record
takes cfg s [] p b e = cc (rw b at e)
takes cfg s (c ∷ rest) p b e = by (is_end (step cfg s c).1) e
  where
    by : (b : Bool)
        → (if b then Some (fields_after (step cfg s c).1 [] [], (step cfg s c).0, rest) else next_record cfg (step cfg s c).0 (fields_after (step cfg s c).1 [] []) (field_after (step cfg s c).1 c []) rest) ≡ Some p
        → length p.2 < length (c ∷ rest)
    by true f = subst (λ (q : Read). length q.2 < length (c ∷ rest)) (some_read _ p f) (omega arith)
    by false f = let l = leaves cfg _ _ _ rest p f in omega (arith, l.shorter)

-- ---- as many records as there are, however many are asked for

enough : (cfg : Config) (n m : ℕ) (s : State) (xs : List ℕ) → ends_at_end s ≡ false → length xs < n → length xs < m → records_from cfg n s xs ≡ records_from cfg m s xs
unfolding records_from
enough cfg zero m s xs b h k = absurd (omega arith)
enough cfg (suc n) zero s xs b h k = absurd (omega arith)
enough cfg (suc n) (suc m) s xs b h k = by (next_record cfg s [] [] xs) refl (enough cfg n m)
  where
    by : (o : Option Read) → next_record cfg s [] [] xs ≡ o
        → ((s2 : State) (ys : List ℕ) → ends_at_end s2 ≡ false → length ys < n → length ys < m → records_from cfg n s2 ys ≡ records_from cfg m s2 ys)
        → records_from cfg (suc n) s xs ≡ records_from cfg (suc m) s xs
    by None e more = rw e refl
    by (Some p) e more =
        let l = leaves cfg s [] [] xs p e in
        let t = takes cfg s xs p b e in
        rw e (ap (λ (rs : List (List (List ℕ))). p.0 ∷ rs) (more p.1 p.2 l.between (omega arith) (omega arith)))

-- all records of a text
pub all_left : (xs : List ℕ) → left_from st.StartRecord (Some xs) ≡ records default_config xs
unfolding left_from
all_left xs = enough default_config (length xs + 2) (length xs + 1) st.StartRecord xs refl (omega arith) (omega arith)

-- the next record and those after it
one_left : (s : State) (xs : List ℕ) (p : Read) → next_record default_config s [] [] xs ≡ Some p → left_from s (Some xs) ≡ p.0 ∷ left_from p.1 (Some p.2)
unfolding left_from records_from
one_left s xs p e =
    let l = leaves default_config s [] [] xs p e in
    let n : length xs + 2 ≡ suc (length xs + 1) = omega arith in
    rw (n, e) (ap (λ (rs : List (List (List ℕ))). p.0 ∷ rs) (enough default_config (length xs + 1) (length p.2 + 2) p.1 p.2 l.between (omega (arith, l.shorter)) (omega arith)))

none_left : (s : State) (xs : List ℕ) → next_record default_config s [] [] xs ≡ None → left_from s (Some xs) ≡ []
unfolding left_from records_from
none_left s xs e =
    let n : length xs + 2 ≡ suc (length xs + 1) = omega arith in
    rw (n, e) refl

-- ---- a reader

-- a reader at the start of a text
pub all_of : (reader : Reader (Bor (List ℕ))) (xs : List ℕ) → reader.state ≡ st.StartRecord → text_left reader ≡ Some xs → records_left reader ≡ records default_config xs
all_of reader xs start text = rw (start, text) (all_left xs)

-- the next record as csv says it
next_by : (s s2 : State) (xs ys : List ℕ) (found : Bool) (fields : List (List ℕ)) → NextIs (next_record default_config s [] [] xs) found fields s2 ys
    → left_from s (Some xs) ≡ (if found then fields ∷ left_from s2 (Some ys) else [])
next_by s s2 xs ys found fields = by (next_record default_config s [] [] xs) refl
  where
    by : (o : Option Read) → next_record default_config s [] [] xs ≡ o → NextIs o found fields s2 ys → left_from s (Some xs) ≡ (if found then fields ∷ left_from s2 (Some ys) else [])
    by None e n = rw n (none_left s xs e)
    by (Some p) e n = rw (n.0, n.1, n.2, n.3) (one_left s xs p e)

reads_by : (s s2 : State) (old new : Option (List ℕ)) (found : Bool) (fields : List (List ℕ)) → IsSome old → ReadsNext default_config s old new found fields s2
    → IsSome new × (left_from s old ≡ (if found then fields ∷ left_from s2 new else []))
reads_by s s2 None new found fields h r = absurd (false≢true h)
reads_by s s2 (Some xs) None found fields h r = absurd r
reads_by s s2 (Some xs) (Some ys) found fields h r = (refl, next_by s s2 xs ys found fields r)

-- what a read does to the records that are left, and that the text stays known
pub going_on : (old new : Reader (Bor (List ℕ))) (found : Bool) (fields : List (List ℕ)) → IsGoing old → ReadRecord (λ s. Some s.now) old new found fields
    → IsSome (text_left new) × (records_left old ≡ (if found then fields ∷ records_left new else []))
going_on old new found fields g r =
    let by = reads_by old.state new.state (text_left old) (pending_of (Some new.rdr.now) new) found fields g.known (rw g.config at r.0) in
    rw r.1 by

pub reading_on : (old new : Reader (Bor (List ℕ))) (found : Bool) (fields : List (List ℕ)) → (has_failed old ≡ false → IsGoing old)
    → (has_failed old ≡ true → found ≡ false) → (IsGoing old → ReadRecord (λ s. Some s.now) old new found fields)
    → records_left old ≡ (if found then fields ∷ records_left new else [])
unfolding left_from
reading_on old new found fields going failed reads = by (has_failed old) refl
  where
    by : (b : Bool) → has_failed old ≡ b → records_left old ≡ (if found then fields ∷ records_left new else [])
    by true f = rw (f, failed f) refl
    by false f = let g = going f in (going_on old new found fields g (reads g)).1

-- why a read of bytes of any length fails
stops : (old new : Reader (Bor (List ℕ))) (k : ErrorKind) → old.flexible ≡ true → ExplainsRead (λ s. Some s.now) old new false k → stops_reader k ≡ true
stops old new (kind.Io e) f h = refl
stops old new kind.OutOfMemory f h = refl
stops old new (kind.UnequalLengths pos expected len) f h = cc (f, h.0)
stops old new (kind.Utf8 pos err) f h = cc h.0
stops old new (kind.Serialize why) f h = absurd h
stops old new (kind.Deserialize pos err) f h = absurd h

pub failing : (old new : Reader (Bor (List ℕ))) (k : ErrorKind) (result : Result Bool Error) (e : Error) → (has_failed old ≡ false → IsGoing old)
    → (has_failed old ≡ true → result ≡ Ok false) → result ≡ Err e → (IsGoing old → ExplainsRead (λ s. Some s.now) old new false k) → stops_reader k ≡ true
failing old new k result e going failed is why = by (has_failed old) refl
  where
    by : (b : Bool) → has_failed old ≡ b → stops_reader k ≡ true
    by true f = cc (failed f, is)
    by false f = let g = going f in stops old new k g.flexible (why g)

-- Scripts that are equal without their places and numbers are alike.
use Rattle.std.proofs.Common.{◌≡◌, sym, subst}
use Rattle.hp_script.specs.Mirror as mirror
use Rattle.hp_script.specs.Mirror.{Tree, Args, Block}
use Rattle.hp_script.specs.Alike.{TreesAlike, numbers, truths, texts, variables, columns, fields, unaries, binaries, indices, calls, ArgsAlike, nones, plains, ranges, lambdas, nameds, AreAlike, dones, assigns, prints, exports, chooses, loops}
use Rattle.hp_script.proofs.Bare.{bare, bare_args, bare_block}

-- ---- each is like itself without places and numbers

mutual
  like_bare : (x : Tree) → TreesAlike x (bare x)
  like_bare (mirror.number h value) = numbers
  like_bare (mirror.truth h holds) = truths
  like_bare (mirror.text h bytes) = texts
  like_bare (mirror.variable h name) = variables
  like_bare (mirror.column h name) = columns
  like_bare (mirror.field h name of_it) = fields
  like_bare (mirror.unary h op dotted x) = unaries (like_bare x)
  like_bare (mirror.binary h op dotted x y) = binaries (like_bare x) (like_bare y)
  like_bare (mirror.index h x y) = indices (like_bare x) (like_bare y)
  like_bare (mirror.call h function dotted xs) = calls (args_like_bare xs)

  args_like_bare : (xs : Args) → ArgsAlike xs (bare_args xs)
  args_like_bare mirror.none = nones
  args_like_bare (mirror.plain x xs) = plains (like_bare x) (args_like_bare xs)
  args_like_bare (mirror.range x y xs) = ranges (like_bare x) (like_bare y) (args_like_bare xs)
  args_like_bare (mirror.lambda parameter x xs) = lambdas (like_bare x) (args_like_bare xs)
  args_like_bare (mirror.named name at x xs) = nameds (like_bare x) (args_like_bare xs)

block_like_bare : (b : Block) → AreAlike b (bare_block b)
unfolding bare_block
block_like_bare mirror.done = dones
block_like_bare (mirror.assign at name x rest) = assigns (like_bare x) (block_like_bare rest)
block_like_bare (mirror.print at x rest) = prints (like_bare x) (block_like_bare rest)
block_like_bare (mirror.export at x rest) = exports (like_bare x) (block_like_bare rest)
block_like_bare (mirror.choose at x a b rest) = chooses (like_bare x) (block_like_bare a) (block_like_bare b) (block_like_bare rest)
block_like_bare (mirror.loop at x a rest) = loops (like_bare x) (block_like_bare a) (block_like_bare rest)

-- ---- two that are like one are alike

mutual
  both_like : (x : Tree) {y z : Tree} → TreesAlike y x → TreesAlike z x → TreesAlike y z
  both_like (mirror.number h value) numbers numbers = numbers
  both_like (mirror.truth h holds) truths truths = truths
  both_like (mirror.text h bytes) texts texts = texts
  both_like (mirror.variable h name) variables variables = variables
  both_like (mirror.column h name) columns columns = columns
  both_like (mirror.field h name of_it) fields fields = fields
  both_like (mirror.unary h op dotted x) (unaries a) (unaries b) = unaries (both_like x a b)
  both_like (mirror.binary h op dotted x y) (binaries a c) (binaries b d) = binaries (both_like x a b) (both_like y c d)
  both_like (mirror.index h x y) (indices a c) (indices b d) = indices (both_like x a b) (both_like y c d)
  both_like (mirror.call h function dotted xs) (calls a) (calls b) = calls (args_both_like xs a b)

  args_both_like : (xs : Args) {ys zs : Args} → ArgsAlike ys xs → ArgsAlike zs xs → ArgsAlike ys zs
  args_both_like mirror.none nones nones = nones
  args_both_like (mirror.plain x xs) (plains a c) (plains b d) = plains (both_like x a b) (args_both_like xs c d)
  args_both_like (mirror.range x y xs) (ranges a c e) (ranges b d f) = ranges (both_like x a b) (both_like y c d) (args_both_like xs e f)
  args_both_like (mirror.lambda parameter x xs) (lambdas a c) (lambdas b d) = lambdas (both_like x a b) (args_both_like xs c d)
  args_both_like (mirror.named name at x xs) (nameds a c) (nameds b d) = nameds (both_like x a b) (args_both_like xs c d)

blocks_both_like : (b : Block) {c d : Block} → AreAlike c b → AreAlike d b → AreAlike c d
blocks_both_like mirror.done dones dones = dones
blocks_both_like (mirror.assign at name x rest) (assigns a c) (assigns b d) = assigns (both_like x a b) (blocks_both_like rest c d)
blocks_both_like (mirror.print at x rest) (prints a c) (prints b d) = prints (both_like x a b) (blocks_both_like rest c d)
blocks_both_like (mirror.export at x rest) (exports a c) (exports b d) = exports (both_like x a b) (blocks_both_like rest c d)
blocks_both_like (mirror.choose at x p q rest) (chooses a c e g) (chooses b d f h) = chooses (both_like x a b) (blocks_both_like p c d) (blocks_both_like q e f) (blocks_both_like rest g h)
blocks_both_like (mirror.loop at x p rest) (loops a c e) (loops b d f) = loops (both_like x a b) (blocks_both_like p c d) (blocks_both_like rest e f)

pub alike_by_bare : (one other : Block) → bare_block one ≡ bare_block other → AreAlike one other
alike_by_bare one other e = blocks_both_like (bare_block one) (block_like_bare one) (subst (AreAlike other) (sym e) (block_like_bare other))

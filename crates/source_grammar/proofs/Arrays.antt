-- What the arrays of the code hold. Made by `python3 tools/grammar.py` of tools/source.ebnf.
use Rattle.std.specs.Prelude.{ℕ, List, [], ◌∷◌}
use Rattle.grammar_tables.specs.declared.symbol.Symbol.{Symbol}
use Rattle.grammar_tables.specs.declared.symbol.Symbol.TheVariants.{Terminal, Nonterminal}
use Rattle.grammar_tables.specs.declared.tables.BodyRange.{BodyRange}

abbrev range : ℕ → ℕ → BodyRange
range from to = record { from = from; to = to }

unfoldable pub symbols : List Symbol
symbols =
    Nonterminal 1 ∷ Terminal 78 ∷ Nonterminal 2 ∷ Nonterminal 6 ∷ Nonterminal 0 ∷ Nonterminal 244 ∷ Terminal 73 ∷ Nonterminal 2 ∷ Nonterminal 5 ∷ Nonterminal 245 ∷ Nonterminal 4 ∷ Nonterminal 246 ∷
    Terminal 148 ∷ Nonterminal 246 ∷ Nonterminal 247 ∷ Nonterminal 246 ∷ Nonterminal 248 ∷ Nonterminal 246 ∷ Nonterminal 249 ∷ Nonterminal 7 ∷ Nonterminal 8 ∷ Terminal 61 ∷ Nonterminal 13 ∷
    Nonterminal 8 ∷ Terminal 61 ∷ Terminal 78 ∷ Nonterminal 13 ∷ Nonterminal 7 ∷ Terminal 62 ∷ Nonterminal 16 ∷ Nonterminal 9 ∷ Terminal 62 ∷ Terminal 90 ∷ Nonterminal 11 ∷ Terminal 62 ∷ Terminal 91 ∷
    Nonterminal 10 ∷ Terminal 61 ∷ Terminal 78 ∷ Nonterminal 253 ∷ Nonterminal 15 ∷ Nonterminal 253 ∷ Nonterminal 9 ∷ Terminal 62 ∷ Nonterminal 16 ∷ Nonterminal 9 ∷ Terminal 62 ∷ Terminal 90 ∷
    Nonterminal 11 ∷ Terminal 62 ∷ Terminal 91 ∷ Nonterminal 11 ∷ Nonterminal 254 ∷ Terminal 78 ∷ Nonterminal 255 ∷ Nonterminal 15 ∷ Nonterminal 255 ∷ Nonterminal 16 ∷ Terminal 90 ∷ Terminal 91 ∷
    Nonterminal 256 ∷ Nonterminal 15 ∷ Nonterminal 256 ∷ Nonterminal 48 ∷ Nonterminal 53 ∷ Nonterminal 57 ∷ Nonterminal 60 ∷ Nonterminal 21 ∷ Nonterminal 257 ∷ Terminal 25 ∷ Nonterminal 18 ∷ Terminal
    62 ∷ Nonterminal 259 ∷ Terminal 61 ∷ Nonterminal 19 ∷ Nonterminal 20 ∷ Nonterminal 3 ∷ Terminal 142 ∷ Nonterminal 260 ∷ Terminal 141 ∷ Nonterminal 261 ∷ Terminal 92 ∷ Nonterminal 22 ∷ Nonterminal
    23 ∷ Terminal 80 ∷ Nonterminal 264 ∷ Terminal 140 ∷ Terminal 37 ∷ Terminal 80 ∷ Terminal 84 ∷ Terminal 9 ∷ Terminal 12 ∷ Nonterminal 268 ∷ Nonterminal 269 ∷ Nonterminal 25 ∷ Nonterminal 270 ∷
    Terminal 128 ∷ Terminal 14 ∷ Terminal 60 ∷ Nonterminal 271 ∷ Terminal 59 ∷ Terminal 64 ∷ Nonterminal 273 ∷ Terminal 63 ∷ Terminal 66 ∷ Nonterminal 275 ∷ Terminal 65 ∷ Nonterminal 29 ∷ Nonterminal
    30 ∷ Nonterminal 277 ∷ Terminal 2 ∷ Nonterminal 278 ∷ Terminal 128 ∷ Nonterminal 32 ∷ Terminal 38 ∷ Nonterminal 279 ∷ Nonterminal 33 ∷ Nonterminal 34 ∷ Nonterminal 35 ∷ Nonterminal 36 ∷ Terminal
    81 ∷ Terminal 128 ∷ Terminal 2 ∷ Terminal 81 ∷ Terminal 2 ∷ Nonterminal 280 ∷ Nonterminal 37 ∷ Nonterminal 38 ∷ Nonterminal 39 ∷ Terminal 129 ∷ Nonterminal 281 ∷ Nonterminal 40 ∷ Terminal 143 ∷
    Terminal 60 ∷ Nonterminal 282 ∷ Terminal 59 ∷ Nonterminal 42 ∷ Nonterminal 43 ∷ Terminal 24 ∷ Nonterminal 46 ∷ Nonterminal 47 ∷ Nonterminal 72 ∷ Terminal 81 ∷ Terminal 128 ∷ Nonterminal 44 ∷
    Nonterminal 45 ∷ Nonterminal 72 ∷ Terminal 81 ∷ Terminal 128 ∷ Terminal 28 ∷ Terminal 28 ∷ Terminal 28 ∷ Nonterminal 284 ∷ Nonterminal 285 ∷ Terminal 74 ∷ Nonterminal 286 ∷ Nonterminal 287 ∷
    Terminal 128 ∷ Terminal 31 ∷ Terminal 64 ∷ Nonterminal 288 ∷ Terminal 63 ∷ Terminal 60 ∷ Nonterminal 290 ∷ Terminal 59 ∷ Nonterminal 72 ∷ Terminal 81 ∷ Terminal 128 ∷ Terminal 25 ∷ Nonterminal 72
    ∷ Terminal 81 ∷ Terminal 128 ∷ Nonterminal 72 ∷ Terminal 25 ∷ Nonterminal 72 ∷ Nonterminal 292 ∷ Nonterminal 295 ∷ Terminal 128 ∷ Terminal 11 ∷ Nonterminal 296 ∷ Terminal 128 ∷ Terminal 64 ∷
    Nonterminal 297 ∷ Terminal 63 ∷ Nonterminal 72 ∷ Terminal 81 ∷ Terminal 128 ∷ Nonterminal 299 ∷ Terminal 128 ∷ Terminal 33 ∷ Nonterminal 59 ∷ Nonterminal 59 ∷ Nonterminal 17 ∷ Terminal 78 ∷
    Terminal 80 ∷ Nonterminal 24 ∷ Nonterminal 62 ∷ Nonterminal 301 ∷ Nonterminal 302 ∷ Nonterminal 303 ∷ Terminal 17 ∷ Nonterminal 304 ∷ Terminal 130 ∷ Terminal 64 ∷ Nonterminal 63 ∷ Terminal 63 ∷
    Nonterminal 63 ∷ Nonterminal 64 ∷ Nonterminal 65 ∷ Nonterminal 66 ∷ Terminal 80 ∷ Nonterminal 305 ∷ Terminal 101 ∷ Terminal 35 ∷ Nonterminal 67 ∷ Nonterminal 68 ∷ Terminal 61 ∷ Terminal 78 ∷
    Nonterminal 101 ∷ Nonterminal 24 ∷ Terminal 25 ∷ Nonterminal 101 ∷ Nonterminal 24 ∷ Nonterminal 67 ∷ Terminal 62 ∷ Nonterminal 16 ∷ Nonterminal 69 ∷ Terminal 62 ∷ Terminal 90 ∷ Nonterminal 71 ∷
    Terminal 62 ∷ Terminal 91 ∷ Nonterminal 70 ∷ Terminal 61 ∷ Terminal 78 ∷ Nonterminal 26 ∷ Nonterminal 24 ∷ Terminal 25 ∷ Nonterminal 26 ∷ Nonterminal 24 ∷ Nonterminal 69 ∷ Terminal 62 ∷
    Nonterminal 16 ∷ Nonterminal 69 ∷ Terminal 62 ∷ Terminal 90 ∷ Nonterminal 71 ∷ Terminal 62 ∷ Terminal 91 ∷ Nonterminal 71 ∷ Nonterminal 306 ∷ Terminal 78 ∷ Terminal 80 ∷ Nonterminal 24 ∷ Terminal
    25 ∷ Terminal 80 ∷ Nonterminal 24 ∷ Nonterminal 73 ∷ Nonterminal 81 ∷ Nonterminal 77 ∷ Nonterminal 307 ∷ Terminal 130 ∷ Terminal 66 ∷ Nonterminal 308 ∷ Terminal 65 ∷ Terminal 2 ∷ Nonterminal 72 ∷
    Terminal 66 ∷ Nonterminal 310 ∷ Terminal 65 ∷ Nonterminal 72 ∷ Nonterminal 312 ∷ Nonterminal 313 ∷ Terminal 74 ∷ Nonterminal 79 ∷ Nonterminal 81 ∷ Nonterminal 80 ∷ Terminal 130 ∷ Nonterminal 78 ∷
    Nonterminal 314 ∷ Nonterminal 315 ∷ Terminal 74 ∷ Nonterminal 82 ∷ Nonterminal 83 ∷ Terminal 60 ∷ Nonterminal 316 ∷ Terminal 59 ∷ Nonterminal 318 ∷ Terminal 29 ∷ Nonterminal 242 ∷ Nonterminal 85 ∷
    Nonterminal 86 ∷ Nonterminal 87 ∷ Nonterminal 88 ∷ Nonterminal 89 ∷ Nonterminal 90 ∷ Nonterminal 91 ∷ Terminal 1 ∷ Terminal 128 ∷ Terminal 24 ∷ Terminal 3 ∷ Terminal 69 ∷ Terminal 3 ∷ Terminal 139
    ∷ Terminal 60 ∷ Nonterminal 319 ∷ Terminal 59 ∷ Nonterminal 321 ∷ Nonterminal 96 ∷ Terminal 60 ∷ Nonterminal 322 ∷ Terminal 59 ∷ Terminal 64 ∷ Nonterminal 94 ∷ Terminal 63 ∷ Nonterminal 324 ∷
    Nonterminal 95 ∷ Terminal 58 ∷ Nonterminal 325 ∷ Terminal 128 ∷ Nonterminal 97 ∷ Nonterminal 100 ∷ Nonterminal 98 ∷ Terminal 128 ∷ Nonterminal 326 ∷ Terminal 57 ∷ Nonterminal 328 ∷ Terminal 57 ∷
    Terminal 128 ∷ Terminal 57 ∷ Terminal 66 ∷ Terminal 129 ∷ Terminal 5 ∷ Nonterminal 72 ∷ Terminal 65 ∷ Terminal 64 ∷ Nonterminal 102 ∷ Terminal 63 ∷ Nonterminal 102 ∷ Nonterminal 107 ∷ Nonterminal
    102 ∷ Nonterminal 105 ∷ Nonterminal 103 ∷ Nonterminal 17 ∷ Terminal 78 ∷ Nonterminal 104 ∷ Nonterminal 122 ∷ Nonterminal 103 ∷ Nonterminal 17 ∷ Terminal 78 ∷ Nonterminal 102 ∷ Nonterminal 106 ∷
    Nonterminal 104 ∷ Nonterminal 152 ∷ Nonterminal 102 ∷ Terminal 80 ∷ Nonterminal 329 ∷ Nonterminal 110 ∷ Nonterminal 330 ∷ Nonterminal 115 ∷ Nonterminal 109 ∷ Nonterminal 108 ∷ Nonterminal 331 ∷
    Nonterminal 84 ∷ Terminal 19 ∷ Nonterminal 120 ∷ Terminal 67 ∷ Terminal 80 ∷ Nonterminal 101 ∷ Nonterminal 111 ∷ Nonterminal 112 ∷ Nonterminal 115 ∷ Nonterminal 332 ∷ Nonterminal 101 ∷ Nonterminal
    335 ∷ Nonterminal 336 ∷ Nonterminal 337 ∷ Nonterminal 338 ∷ Terminal 45 ∷ Nonterminal 84 ∷ Nonterminal 114 ∷ Nonterminal 17 ∷ Terminal 78 ∷ Nonterminal 113 ∷ Nonterminal 341 ∷ Nonterminal 115 ∷
    Nonterminal 342 ∷ Nonterminal 152 ∷ Nonterminal 116 ∷ Nonterminal 117 ∷ Nonterminal 101 ∷ Nonterminal 343 ∷ Nonterminal 101 ∷ Terminal 20 ∷ Nonterminal 121 ∷ Nonterminal 119 ∷ Nonterminal 344 ∷
    Nonterminal 84 ∷ Terminal 19 ∷ Nonterminal 345 ∷ Nonterminal 347 ∷ Nonterminal 123 ∷ Nonterminal 348 ∷ Nonterminal 350 ∷ Nonterminal 124 ∷ Nonterminal 351 ∷ Nonterminal 353 ∷ Nonterminal 125 ∷
    Nonterminal 354 ∷ Nonterminal 126 ∷ Nonterminal 355 ∷ Nonterminal 127 ∷ Nonterminal 356 ∷ Nonterminal 128 ∷ Nonterminal 357 ∷ Nonterminal 129 ∷ Nonterminal 358 ∷ Nonterminal 130 ∷ Nonterminal 359
    ∷ Nonterminal 131 ∷ Nonterminal 360 ∷ Nonterminal 132 ∷ Nonterminal 361 ∷ Nonterminal 133 ∷ Nonterminal 362 ∷ Nonterminal 134 ∷ Nonterminal 363 ∷ Nonterminal 135 ∷ Nonterminal 364 ∷ Nonterminal
    136 ∷ Nonterminal 365 ∷ Nonterminal 137 ∷ Nonterminal 366 ∷ Nonterminal 138 ∷ Nonterminal 367 ∷ Nonterminal 139 ∷ Nonterminal 368 ∷ Nonterminal 140 ∷ Nonterminal 369 ∷ Nonterminal 141 ∷
    Nonterminal 370 ∷ Nonterminal 142 ∷ Nonterminal 371 ∷ Nonterminal 143 ∷ Nonterminal 144 ∷ Nonterminal 146 ∷ Nonterminal 145 ∷ Nonterminal 147 ∷ Nonterminal 144 ∷ Nonterminal 148 ∷ Nonterminal 141
    ∷ Terminal 69 ∷ Nonterminal 141 ∷ Terminal 73 ∷ Nonterminal 141 ∷ Terminal 70 ∷ Nonterminal 141 ∷ Nonterminal 372 ∷ Terminal 74 ∷ Nonterminal 142 ∷ Terminal 69 ∷ Nonterminal 142 ∷ Terminal 73 ∷
    Nonterminal 142 ∷ Terminal 70 ∷ Nonterminal 142 ∷ Nonterminal 373 ∷ Terminal 74 ∷ Nonterminal 374 ∷ Nonterminal 154 ∷ Nonterminal 375 ∷ Nonterminal 155 ∷ Nonterminal 376 ∷ Nonterminal 156 ∷
    Nonterminal 150 ∷ Nonterminal 151 ∷ Nonterminal 377 ∷ Terminal 82 ∷ Terminal 60 ∷ Nonterminal 380 ∷ Terminal 59 ∷ Nonterminal 382 ∷ Nonterminal 384 ∷ Nonterminal 153 ∷ Nonterminal 385 ∷
    Nonterminal 386 ∷ Nonterminal 387 ∷ Nonterminal 388 ∷ Nonterminal 389 ∷ Nonterminal 390 ∷ Nonterminal 391 ∷ Nonterminal 179 ∷ Nonterminal 164 ∷ Nonterminal 173 ∷ Nonterminal 110 ∷ Nonterminal 157
    ∷ Nonterminal 179 ∷ Nonterminal 161 ∷ Nonterminal 164 ∷ Nonterminal 174 ∷ Nonterminal 110 ∷ Nonterminal 159 ∷ Nonterminal 180 ∷ Nonterminal 162 ∷ Nonterminal 164 ∷ Nonterminal 173 ∷ Nonterminal
    179 ∷ Nonterminal 161 ∷ Nonterminal 158 ∷ Nonterminal 17 ∷ Terminal 78 ∷ Nonterminal 158 ∷ Nonterminal 17 ∷ Terminal 78 ∷ Nonterminal 115 ∷ Nonterminal 179 ∷ Nonterminal 160 ∷ Nonterminal 17 ∷
    Terminal 78 ∷ Nonterminal 160 ∷ Nonterminal 17 ∷ Terminal 78 ∷ Nonterminal 115 ∷ Nonterminal 180 ∷ Nonterminal 392 ∷ Terminal 27 ∷ Nonterminal 163 ∷ Terminal 27 ∷ Nonterminal 394 ∷ Nonterminal 165
    ∷ Nonterminal 166 ∷ Nonterminal 167 ∷ Nonterminal 168 ∷ Nonterminal 169 ∷ Nonterminal 170 ∷ Nonterminal 171 ∷ Nonterminal 172 ∷ Terminal 3 ∷ Terminal 139 ∷ Terminal 28 ∷ Terminal 60 ∷ Nonterminal
    395 ∷ Terminal 59 ∷ Terminal 6 ∷ Terminal 8 ∷ Nonterminal 397 ∷ Terminal 73 ∷ Terminal 144 ∷ Nonterminal 399 ∷ Terminal 73 ∷ Terminal 145 ∷ Nonterminal 400 ∷ Nonterminal 175 ∷ Nonterminal 175 ∷
    Nonterminal 176 ∷ Nonterminal 100 ∷ Nonterminal 98 ∷ Nonterminal 243 ∷ Terminal 131 ∷ Terminal 64 ∷ Nonterminal 401 ∷ Terminal 63 ∷ Nonterminal 403 ∷ Terminal 128 ∷ Nonterminal 404 ∷ Terminal 23 ∷
    Nonterminal 404 ∷ Nonterminal 409 ∷ Terminal 23 ∷ Nonterminal 409 ∷ Nonterminal 72 ∷ Terminal 81 ∷ Terminal 128 ∷ Nonterminal 101 ∷ Nonterminal 72 ∷ Terminal 46 ∷ Nonterminal 120 ∷ Nonterminal 101
    ∷ Nonterminal 72 ∷ Terminal 46 ∷ Nonterminal 121 ∷ Nonterminal 241 ∷ Nonterminal 185 ∷ Nonterminal 414 ∷ Nonterminal 188 ∷ Nonterminal 416 ∷ Nonterminal 189 ∷ Nonterminal 418 ∷ Nonterminal 190 ∷
    Nonterminal 420 ∷ Nonterminal 191 ∷ Nonterminal 421 ∷ Nonterminal 192 ∷ Nonterminal 422 ∷ Nonterminal 193 ∷ Nonterminal 423 ∷ Nonterminal 194 ∷ Nonterminal 424 ∷ Nonterminal 195 ∷ Nonterminal 425
    ∷ Nonterminal 196 ∷ Nonterminal 426 ∷ Nonterminal 197 ∷ Nonterminal 427 ∷ Nonterminal 198 ∷ Nonterminal 428 ∷ Nonterminal 199 ∷ Nonterminal 429 ∷ Nonterminal 200 ∷ Nonterminal 430 ∷ Nonterminal
    201 ∷ Nonterminal 431 ∷ Nonterminal 202 ∷ Nonterminal 432 ∷ Nonterminal 203 ∷ Nonterminal 433 ∷ Nonterminal 204 ∷ Nonterminal 434 ∷ Nonterminal 205 ∷ Nonterminal 206 ∷ Nonterminal 208 ∷
    Nonterminal 207 ∷ Nonterminal 209 ∷ Nonterminal 206 ∷ Nonterminal 210 ∷ Nonterminal 203 ∷ Terminal 138 ∷ Nonterminal 204 ∷ Terminal 138 ∷ Nonterminal 435 ∷ Nonterminal 214 ∷ Nonterminal 436 ∷
    Nonterminal 215 ∷ Nonterminal 437 ∷ Nonterminal 216 ∷ Terminal 77 ∷ Nonterminal 438 ∷ Terminal 82 ∷ Terminal 60 ∷ Nonterminal 440 ∷ Terminal 59 ∷ Nonterminal 230 ∷ Nonterminal 217 ∷ Nonterminal
    220 ∷ Nonterminal 230 ∷ Nonterminal 218 ∷ Nonterminal 221 ∷ Nonterminal 230 ∷ Nonterminal 217 ∷ Nonterminal 222 ∷ Nonterminal 442 ∷ Nonterminal 443 ∷ Terminal 65 ∷ Terminal 146 ∷ Nonterminal 445 ∷
    Nonterminal 446 ∷ Terminal 65 ∷ Terminal 146 ∷ Nonterminal 72 ∷ Terminal 81 ∷ Terminal 128 ∷ Nonterminal 223 ∷ Nonterminal 224 ∷ Nonterminal 448 ∷ Nonterminal 224 ∷ Nonterminal 223 ∷ Nonterminal
    226 ∷ Nonterminal 213 ∷ Nonterminal 228 ∷ Nonterminal 225 ∷ Nonterminal 100 ∷ Nonterminal 98 ∷ Terminal 132 ∷ Nonterminal 227 ∷ Nonterminal 100 ∷ Nonterminal 98 ∷ Terminal 133 ∷ Terminal 64 ∷
    Nonterminal 449 ∷ Terminal 63 ∷ Nonterminal 185 ∷ Terminal 81 ∷ Terminal 128 ∷ Nonterminal 231 ∷ Nonterminal 232 ∷ Nonterminal 233 ∷ Nonterminal 234 ∷ Nonterminal 235 ∷ Nonterminal 236 ∷
    Nonterminal 237 ∷ Nonterminal 239 ∷ Nonterminal 240 ∷ Terminal 3 ∷ Terminal 139 ∷ Terminal 106 ∷ Terminal 28 ∷ Terminal 60 ∷ Nonterminal 451 ∷ Terminal 59 ∷ Nonterminal 453 ∷ Nonterminal 455 ∷
    Nonterminal 456 ∷ Nonterminal 457 ∷ Nonterminal 460 ∷ Nonterminal 185 ∷ Terminal 45 ∷ Nonterminal 84 ∷ Nonterminal 461 ∷ Terminal 109 ∷ Nonterminal 213 ∷ Terminal 147 ∷ Terminal 62 ∷ Nonterminal 3
    ∷ Terminal 61 ∷ Nonterminal 245 ∷ Nonterminal 4 ∷ Nonterminal 246 ∷ Terminal 148 ∷ Nonterminal 246 ∷ Nonterminal 250 ∷ Nonterminal 246 ∷ Nonterminal 251 ∷ Nonterminal 246 ∷ Nonterminal 252 ∷
    Terminal 60 ∷ Nonterminal 3 ∷ Terminal 59 ∷ Terminal 62 ∷ Nonterminal 3 ∷ Terminal 61 ∷ Terminal 64 ∷ Nonterminal 3 ∷ Terminal 63 ∷ Terminal 60 ∷ Nonterminal 3 ∷ Terminal 59 ∷ Terminal 62 ∷
    Nonterminal 3 ∷ Terminal 61 ∷ Terminal 64 ∷ Nonterminal 3 ∷ Terminal 63 ∷ Nonterminal 26 ∷ Nonterminal 24 ∷ Nonterminal 14 ∷ Terminal 62 ∷ Nonterminal 12 ∷ Terminal 61 ∷ Terminal 80 ∷ Nonterminal
    24 ∷ Nonterminal 14 ∷ Nonterminal 101 ∷ Nonterminal 24 ∷ Nonterminal 14 ∷ Nonterminal 258 ∷ Terminal 60 ∷ Terminal 9 ∷ Terminal 59 ∷ Nonterminal 18 ∷ Terminal 90 ∷ Terminal 91 ∷ Terminal 60 ∷
    Nonterminal 184 ∷ Terminal 59 ∷ Terminal 60 ∷ Nonterminal 262 ∷ Terminal 59 ∷ Nonterminal 263 ∷ Terminal 128 ∷ Nonterminal 262 ∷ Terminal 79 ∷ Nonterminal 264 ∷ Terminal 149 ∷ Nonterminal 264 ∷
    Nonterminal 265 ∷ Nonterminal 264 ∷ Nonterminal 266 ∷ Nonterminal 264 ∷ Nonterminal 267 ∷ Terminal 60 ∷ Nonterminal 3 ∷ Terminal 59 ∷ Terminal 62 ∷ Nonterminal 3 ∷ Terminal 61 ∷ Terminal 64 ∷
    Nonterminal 3 ∷ Terminal 63 ∷ Nonterminal 31 ∷ Nonterminal 72 ∷ Terminal 46 ∷ Nonterminal 27 ∷ Nonterminal 272 ∷ Nonterminal 41 ∷ Nonterminal 271 ∷ Terminal 79 ∷ Nonterminal 241 ∷ Nonterminal 187
    ∷ Nonterminal 274 ∷ Terminal 73 ∷ Terminal 97 ∷ Terminal 64 ∷ Nonterminal 184 ∷ Terminal 63 ∷ Nonterminal 276 ∷ Nonterminal 28 ∷ Nonterminal 275 ∷ Terminal 79 ∷ Terminal 2 ∷ Terminal 81 ∷
    Nonterminal 36 ∷ Terminal 81 ∷ Nonterminal 32 ∷ Terminal 79 ∷ Nonterminal 280 ∷ Nonterminal 37 ∷ Terminal 68 ∷ Nonterminal 72 ∷ Terminal 46 ∷ Nonterminal 283 ∷ Nonterminal 72 ∷ Nonterminal 282 ∷
    Terminal 79 ∷ Terminal 24 ∷ Terminal 2 ∷ Nonterminal 49 ∷ Terminal 80 ∷ Nonterminal 50 ∷ Terminal 80 ∷ Nonterminal 27 ∷ Nonterminal 289 ∷ Nonterminal 51 ∷ Nonterminal 288 ∷ Terminal 79 ∷
    Nonterminal 291 ∷ Nonterminal 52 ∷ Nonterminal 290 ∷ Terminal 79 ∷ Terminal 64 ∷ Nonterminal 293 ∷ Terminal 63 ∷ Nonterminal 294 ∷ Nonterminal 54 ∷ Nonterminal 293 ∷ Terminal 79 ∷ Nonterminal 27 ∷
    Nonterminal 40 ∷ Nonterminal 55 ∷ Nonterminal 298 ∷ Nonterminal 56 ∷ Nonterminal 297 ∷ Terminal 79 ∷ Terminal 64 ∷ Nonterminal 300 ∷ Terminal 63 ∷ Nonterminal 300 ∷ Nonterminal 58 ∷ Nonterminal 31
    ∷ Nonterminal 61 ∷ Nonterminal 81 ∷ Nonterminal 77 ∷ Nonterminal 27 ∷ Nonterminal 72 ∷ Terminal 15 ∷ Nonterminal 74 ∷ Nonterminal 72 ∷ Terminal 67 ∷ Terminal 62 ∷ Nonterminal 12 ∷ Terminal 61 ∷
    Nonterminal 74 ∷ Nonterminal 309 ∷ Nonterminal 75 ∷ Nonterminal 308 ∷ Terminal 79 ∷ Nonterminal 311 ∷ Nonterminal 72 ∷ Nonterminal 310 ∷ Terminal 79 ∷ Terminal 24 ∷ Terminal 2 ∷ Terminal 24 ∷
    Terminal 2 ∷ Nonterminal 317 ∷ Nonterminal 72 ∷ Nonterminal 316 ∷ Terminal 79 ∷ Terminal 101 ∷ Terminal 57 ∷ Nonterminal 320 ∷ Nonterminal 84 ∷ Nonterminal 319 ∷ Terminal 79 ∷ Nonterminal 92 ∷
    Nonterminal 93 ∷ Nonterminal 323 ∷ Nonterminal 84 ∷ Nonterminal 322 ∷ Terminal 79 ∷ Nonterminal 94 ∷ Terminal 79 ∷ Terminal 58 ∷ Nonterminal 84 ∷ Terminal 81 ∷ Nonterminal 99 ∷ Terminal 128 ∷
    Nonterminal 327 ∷ Nonterminal 76 ∷ Terminal 128 ∷ Terminal 57 ∷ Nonterminal 99 ∷ Terminal 128 ∷ Nonterminal 76 ∷ Terminal 80 ∷ Terminal 80 ∷ Nonterminal 72 ∷ Terminal 81 ∷ Nonterminal 333 ∷
    Nonterminal 334 ∷ Terminal 10 ∷ Nonterminal 101 ∷ Nonterminal 111 ∷ Nonterminal 118 ∷ Terminal 16 ∷ Terminal 64 ∷ Nonterminal 113 ∷ Terminal 63 ∷ Nonterminal 121 ∷ Terminal 21 ∷ Nonterminal 113 ∷
    Nonterminal 339 ∷ Nonterminal 110 ∷ Nonterminal 114 ∷ Nonterminal 17 ∷ Terminal 78 ∷ Nonterminal 340 ∷ Nonterminal 122 ∷ Terminal 79 ∷ Nonterminal 113 ∷ Terminal 79 ∷ Terminal 79 ∷ Nonterminal 113
    ∷ Terminal 79 ∷ Nonterminal 118 ∷ Terminal 39 ∷ Nonterminal 121 ∷ Terminal 67 ∷ Nonterminal 346 ∷ Nonterminal 120 ∷ Terminal 67 ∷ Nonterminal 347 ∷ Nonterminal 123 ∷ Terminal 134 ∷ Nonterminal 349
    ∷ Nonterminal 121 ∷ Terminal 67 ∷ Nonterminal 350 ∷ Nonterminal 124 ∷ Terminal 134 ∷ Nonterminal 352 ∷ Nonterminal 120 ∷ Terminal 67 ∷ Nonterminal 353 ∷ Nonterminal 123 ∷ Terminal 134 ∷
    Nonterminal 354 ∷ Nonterminal 126 ∷ Terminal 51 ∷ Nonterminal 355 ∷ Nonterminal 127 ∷ Terminal 51 ∷ Nonterminal 356 ∷ Nonterminal 126 ∷ Terminal 51 ∷ Nonterminal 357 ∷ Nonterminal 129 ∷ Terminal
    50 ∷ Nonterminal 358 ∷ Nonterminal 130 ∷ Terminal 50 ∷ Nonterminal 359 ∷ Nonterminal 129 ∷ Terminal 50 ∷ Nonterminal 132 ∷ Terminal 135 ∷ Nonterminal 133 ∷ Terminal 135 ∷ Nonterminal 132 ∷
    Terminal 135 ∷ Nonterminal 363 ∷ Nonterminal 135 ∷ Terminal 136 ∷ Nonterminal 364 ∷ Nonterminal 136 ∷ Terminal 136 ∷ Nonterminal 365 ∷ Nonterminal 135 ∷ Terminal 136 ∷ Nonterminal 366 ∷
    Nonterminal 138 ∷ Terminal 137 ∷ Nonterminal 367 ∷ Nonterminal 139 ∷ Terminal 137 ∷ Nonterminal 368 ∷ Nonterminal 138 ∷ Terminal 137 ∷ Nonterminal 369 ∷ Nonterminal 78 ∷ Terminal 5 ∷ Nonterminal
    370 ∷ Nonterminal 78 ∷ Terminal 5 ∷ Nonterminal 371 ∷ Nonterminal 78 ∷ Terminal 5 ∷ Terminal 24 ∷ Terminal 24 ∷ Nonterminal 374 ∷ Nonterminal 149 ∷ Nonterminal 375 ∷ Nonterminal 149 ∷ Nonterminal
    376 ∷ Nonterminal 149 ∷ Nonterminal 378 ∷ Nonterminal 379 ∷ Terminal 128 ∷ Terminal 3 ∷ Nonterminal 151 ∷ Nonterminal 76 ∷ Terminal 57 ∷ Nonterminal 381 ∷ Nonterminal 120 ∷ Nonterminal 380 ∷
    Terminal 79 ∷ Nonterminal 383 ∷ Nonterminal 120 ∷ Terminal 67 ∷ Nonterminal 384 ∷ Nonterminal 123 ∷ Terminal 134 ∷ Nonterminal 385 ∷ Nonterminal 126 ∷ Terminal 51 ∷ Nonterminal 386 ∷ Nonterminal
    129 ∷ Terminal 50 ∷ Nonterminal 132 ∷ Terminal 135 ∷ Nonterminal 388 ∷ Nonterminal 135 ∷ Terminal 136 ∷ Nonterminal 389 ∷ Nonterminal 138 ∷ Terminal 137 ∷ Nonterminal 390 ∷ Nonterminal 78 ∷
    Terminal 5 ∷ Nonterminal 391 ∷ Nonterminal 149 ∷ Nonterminal 393 ∷ Nonterminal 120 ∷ Nonterminal 121 ∷ Nonterminal 396 ∷ Nonterminal 120 ∷ Nonterminal 395 ∷ Terminal 79 ∷ Terminal 60 ∷ Nonterminal
    398 ∷ Terminal 59 ∷ Terminal 4 ∷ Terminal 60 ∷ Nonterminal 184 ∷ Terminal 59 ∷ Nonterminal 177 ∷ Nonterminal 402 ∷ Nonterminal 178 ∷ Nonterminal 401 ∷ Terminal 79 ∷ Nonterminal 120 ∷ Terminal 81 ∷
    Nonterminal 405 ∷ Nonterminal 406 ∷ Nonterminal 407 ∷ Terminal 75 ∷ Nonterminal 182 ∷ Terminal 51 ∷ Nonterminal 182 ∷ Terminal 75 ∷ Nonterminal 408 ∷ Nonterminal 181 ∷ Nonterminal 407 ∷ Terminal
    79 ∷ Nonterminal 410 ∷ Nonterminal 411 ∷ Nonterminal 412 ∷ Terminal 75 ∷ Nonterminal 183 ∷ Terminal 51 ∷ Nonterminal 183 ∷ Terminal 75 ∷ Nonterminal 413 ∷ Nonterminal 181 ∷ Nonterminal 412 ∷
    Terminal 79 ∷ Nonterminal 415 ∷ Nonterminal 185 ∷ Terminal 43 ∷ Nonterminal 417 ∷ Nonterminal 186 ∷ Terminal 43 ∷ Nonterminal 419 ∷ Nonterminal 185 ∷ Terminal 43 ∷ Nonterminal 420 ∷ Nonterminal
    191 ∷ Terminal 51 ∷ Nonterminal 421 ∷ Nonterminal 192 ∷ Terminal 51 ∷ Nonterminal 422 ∷ Nonterminal 191 ∷ Terminal 51 ∷ Nonterminal 423 ∷ Nonterminal 194 ∷ Terminal 50 ∷ Nonterminal 424 ∷
    Nonterminal 195 ∷ Terminal 50 ∷ Nonterminal 425 ∷ Nonterminal 194 ∷ Terminal 50 ∷ Nonterminal 197 ∷ Terminal 135 ∷ Nonterminal 198 ∷ Terminal 135 ∷ Nonterminal 197 ∷ Terminal 135 ∷ Nonterminal 429
    ∷ Nonterminal 200 ∷ Terminal 136 ∷ Nonterminal 430 ∷ Nonterminal 201 ∷ Terminal 136 ∷ Nonterminal 431 ∷ Nonterminal 200 ∷ Terminal 136 ∷ Nonterminal 432 ∷ Nonterminal 203 ∷ Terminal 137 ∷
    Nonterminal 433 ∷ Nonterminal 204 ∷ Terminal 137 ∷ Nonterminal 434 ∷ Nonterminal 203 ∷ Terminal 137 ∷ Nonterminal 435 ∷ Nonterminal 211 ∷ Nonterminal 435 ∷ Nonterminal 212 ∷ Nonterminal 436 ∷
    Nonterminal 211 ∷ Nonterminal 436 ∷ Nonterminal 212 ∷ Nonterminal 437 ∷ Nonterminal 211 ∷ Nonterminal 437 ∷ Nonterminal 212 ∷ Nonterminal 439 ∷ Terminal 128 ∷ Terminal 3 ∷ Nonterminal 213 ∷
    Nonterminal 441 ∷ Nonterminal 185 ∷ Nonterminal 440 ∷ Terminal 79 ∷ Nonterminal 185 ∷ Terminal 66 ∷ Nonterminal 444 ∷ Nonterminal 219 ∷ Nonterminal 443 ∷ Terminal 79 ∷ Nonterminal 186 ∷ Terminal
    66 ∷ Nonterminal 447 ∷ Nonterminal 219 ∷ Nonterminal 446 ∷ Terminal 79 ∷ Nonterminal 213 ∷ Nonterminal 450 ∷ Nonterminal 229 ∷ Nonterminal 449 ∷ Terminal 79 ∷ Nonterminal 452 ∷ Nonterminal 185 ∷
    Nonterminal 451 ∷ Terminal 79 ∷ Nonterminal 454 ∷ Terminal 10 ∷ Terminal 64 ∷ Nonterminal 185 ∷ Terminal 63 ∷ Terminal 64 ∷ Nonterminal 185 ∷ Terminal 63 ∷ Nonterminal 186 ∷ Terminal 16 ∷ Terminal
    64 ∷ Nonterminal 458 ∷ Terminal 63 ∷ Nonterminal 459 ∷ Nonterminal 238 ∷ Nonterminal 458 ∷ Terminal 79 ∷ Nonterminal 186 ∷ Terminal 21 ∷ Terminal 60 ∷ Nonterminal 185 ∷ Terminal 79 ∷ Nonterminal
    185 ∷ Terminal 59 ∷ []

unfoldable pub bodies : List BodyRange
bodies =
    range 0 2 ∷ range 2 4 ∷ range 4 4 ∷ range 4 7 ∷ range 7 9 ∷ range 9 11 ∷ range 11 11 ∷ range 11 13 ∷ range 13 15 ∷ range 15 17 ∷ range 17 19 ∷ range 19 19 ∷ range 19 20 ∷ range 20 22 ∷ range 22 23
    ∷ range 23 26 ∷ range 26 27 ∷ range 27 30 ∷ range 30 33 ∷ range 33 36 ∷ range 36 39 ∷ range 39 41 ∷ range 41 42 ∷ range 42 45 ∷ range 45 48 ∷ range 48 51 ∷ range 51 54 ∷ range 54 56 ∷ range 56 57
    ∷ range 57 58 ∷ range 58 59 ∷ range 59 60 ∷ range 60 62 ∷ range 62 63 ∷ range 63 64 ∷ range 64 65 ∷ range 65 66 ∷ range 66 67 ∷ range 67 68 ∷ range 68 70 ∷ range 70 71 ∷ range 71 74 ∷ range 74 75
    ∷ range 75 76 ∷ range 76 78 ∷ range 78 80 ∷ range 80 82 ∷ range 82 83 ∷ range 83 84 ∷ range 84 88 ∷ range 88 92 ∷ range 92 98 ∷ range 98 101 ∷ range 101 104 ∷ range 104 107 ∷ range 107 108 ∷ range
    108 109 ∷ range 109 111 ∷ range 111 113 ∷ range 113 115 ∷ range 115 117 ∷ range 117 117 ∷ range 117 118 ∷ range 118 119 ∷ range 119 122 ∷ range 122 125 ∷ range 125 127 ∷ range 127 128 ∷ range 128
    129 ∷ range 129 130 ∷ range 130 133 ∷ range 133 136 ∷ range 136 137 ∷ range 137 139 ∷ range 139 140 ∷ range 140 141 ∷ range 141 144 ∷ range 144 145 ∷ range 145 146 ∷ range 146 149 ∷ range 149 150
    ∷ range 150 151 ∷ range 151 155 ∷ range 155 159 ∷ range 159 162 ∷ range 162 165 ∷ range 165 169 ∷ range 169 172 ∷ range 172 174 ∷ range 174 175 ∷ range 175 179 ∷ range 179 181 ∷ range 181 184 ∷
    range 184 187 ∷ range 187 190 ∷ range 190 191 ∷ range 191 194 ∷ range 194 196 ∷ range 196 201 ∷ range 201 203 ∷ range 203 206 ∷ range 206 208 ∷ range 208 208 ∷ range 208 209 ∷ range 209 210 ∷
    range 210 214 ∷ range 214 215 ∷ range 215 218 ∷ range 218 221 ∷ range 221 223 ∷ range 223 226 ∷ range 226 229 ∷ range 229 232 ∷ range 232 235 ∷ range 235 238 ∷ range 238 240 ∷ range 240 243 ∷
    range 243 246 ∷ range 246 249 ∷ range 249 252 ∷ range 252 255 ∷ range 255 257 ∷ range 257 258 ∷ range 258 259 ∷ range 259 260 ∷ range 260 262 ∷ range 262 265 ∷ range 265 266 ∷ range 266 267 ∷
    range 267 270 ∷ range 270 274 ∷ range 274 275 ∷ range 275 276 ∷ range 276 277 ∷ range 277 278 ∷ range 278 282 ∷ range 282 283 ∷ range 283 284 ∷ range 284 287 ∷ range 287 289 ∷ range 289 291 ∷
    range 291 292 ∷ range 292 293 ∷ range 293 294 ∷ range 294 295 ∷ range 295 296 ∷ range 296 297 ∷ range 297 298 ∷ range 298 300 ∷ range 300 302 ∷ range 302 303 ∷ range 303 304 ∷ range 304 307 ∷
    range 307 309 ∷ range 309 312 ∷ range 312 315 ∷ range 315 317 ∷ range 317 318 ∷ range 318 318 ∷ range 318 320 ∷ range 320 321 ∷ range 321 322 ∷ range 322 324 ∷ range 324 326 ∷ range 326 326 ∷
    range 326 328 ∷ range 328 328 ∷ range 328 335 ∷ range 335 338 ∷ range 338 340 ∷ range 340 342 ∷ range 342 345 ∷ range 345 347 ∷ range 347 347 ∷ range 347 350 ∷ range 350 352 ∷ range 352 354 ∷
    range 354 356 ∷ range 356 356 ∷ range 356 358 ∷ range 358 360 ∷ range 360 365 ∷ range 365 367 ∷ range 367 368 ∷ range 368 369 ∷ range 369 370 ∷ range 370 371 ∷ range 371 372 ∷ range 372 375 ∷
    range 375 377 ∷ range 377 380 ∷ range 380 380 ∷ range 380 383 ∷ range 383 386 ∷ range 386 388 ∷ range 388 389 ∷ range 389 390 ∷ range 390 392 ∷ range 392 394 ∷ range 394 395 ∷ range 395 396 ∷
    range 396 399 ∷ range 399 402 ∷ range 402 405 ∷ range 405 408 ∷ range 408 410 ∷ range 410 412 ∷ range 412 414 ∷ range 414 416 ∷ range 416 418 ∷ range 418 420 ∷ range 420 422 ∷ range 422 424 ∷
    range 424 426 ∷ range 426 428 ∷ range 428 430 ∷ range 430 432 ∷ range 432 434 ∷ range 434 436 ∷ range 436 438 ∷ range 438 440 ∷ range 440 442 ∷ range 442 444 ∷ range 444 445 ∷ range 445 446 ∷
    range 446 447 ∷ range 447 448 ∷ range 448 449 ∷ range 449 450 ∷ range 450 452 ∷ range 452 454 ∷ range 454 456 ∷ range 456 459 ∷ range 459 461 ∷ range 461 463 ∷ range 463 465 ∷ range 465 468 ∷
    range 468 470 ∷ range 470 472 ∷ range 472 474 ∷ range 474 475 ∷ range 475 476 ∷ range 476 478 ∷ range 478 481 ∷ range 481 484 ∷ range 484 492 ∷ range 492 493 ∷ range 493 494 ∷ range 494 495 ∷
    range 495 496 ∷ range 496 497 ∷ range 497 498 ∷ range 498 499 ∷ range 499 500 ∷ range 500 501 ∷ range 501 502 ∷ range 502 503 ∷ range 503 504 ∷ range 504 505 ∷ range 505 506 ∷ range 506 507 ∷
    range 507 508 ∷ range 508 511 ∷ range 511 514 ∷ range 514 515 ∷ range 515 516 ∷ range 516 519 ∷ range 519 522 ∷ range 522 523 ∷ range 523 524 ∷ range 524 526 ∷ range 526 528 ∷ range 528 529 ∷
    range 529 529 ∷ range 529 530 ∷ range 530 531 ∷ range 531 532 ∷ range 532 533 ∷ range 533 534 ∷ range 534 535 ∷ range 535 536 ∷ range 536 537 ∷ range 537 538 ∷ range 538 539 ∷ range 539 540 ∷
    range 540 543 ∷ range 543 544 ∷ range 544 545 ∷ range 545 548 ∷ range 548 551 ∷ range 551 553 ∷ range 553 554 ∷ range 554 555 ∷ range 555 556 ∷ range 556 559 ∷ range 559 562 ∷ range 562 564 ∷
    range 564 566 ∷ range 566 567 ∷ range 567 569 ∷ range 569 570 ∷ range 570 573 ∷ range 573 576 ∷ range 576 577 ∷ range 577 580 ∷ range 580 581 ∷ range 581 583 ∷ range 583 585 ∷ range 585 587 ∷
    range 587 589 ∷ range 589 591 ∷ range 591 593 ∷ range 593 595 ∷ range 595 597 ∷ range 597 599 ∷ range 599 601 ∷ range 601 603 ∷ range 603 605 ∷ range 605 607 ∷ range 607 609 ∷ range 609 611 ∷
    range 611 613 ∷ range 613 615 ∷ range 615 617 ∷ range 617 619 ∷ range 619 620 ∷ range 620 621 ∷ range 621 622 ∷ range 622 623 ∷ range 623 624 ∷ range 624 625 ∷ range 625 627 ∷ range 627 629 ∷
    range 629 631 ∷ range 631 633 ∷ range 633 635 ∷ range 635 636 ∷ range 636 638 ∷ range 638 641 ∷ range 641 642 ∷ range 642 643 ∷ range 643 644 ∷ range 644 645 ∷ range 645 646 ∷ range 646 647 ∷
    range 647 648 ∷ range 648 649 ∷ range 649 650 ∷ range 650 654 ∷ range 654 658 ∷ range 658 661 ∷ range 661 663 ∷ range 663 665 ∷ range 665 667 ∷ range 667 668 ∷ range 668 669 ∷ range 669 669 ∷
    range 669 670 ∷ range 670 671 ∷ range 671 673 ∷ range 673 674 ∷ range 674 675 ∷ range 675 677 ∷ range 677 680 ∷ range 680 683 ∷ range 683 684 ∷ range 684 685 ∷ range 685 686 ∷ range 686 687 ∷
    range 687 688 ∷ range 688 689 ∷ range 689 690 ∷ range 690 691 ∷ range 691 692 ∷ range 692 693 ∷ range 693 694 ∷ range 694 695 ∷ range 695 696 ∷ range 696 699 ∷ range 699 702 ∷ range 702 704 ∷
    range 704 707 ∷ range 707 709 ∷ range 709 711 ∷ range 711 711 ∷ range 711 711 ∷ range 711 711 ∷ range 711 714 ∷ range 714 716 ∷ range 716 716 ∷ range 716 718 ∷ range 718 720 ∷ range 720 722 ∷
    range 722 724 ∷ range 724 724 ∷ range 724 727 ∷ range 727 730 ∷ range 730 733 ∷ range 733 736 ∷ range 736 739 ∷ range 739 742 ∷ range 742 744 ∷ range 744 745 ∷ range 745 748 ∷ range 748 750 ∷
    range 750 751 ∷ range 751 753 ∷ range 753 754 ∷ range 754 755 ∷ range 755 755 ∷ range 755 758 ∷ range 758 759 ∷ range 759 760 ∷ range 760 761 ∷ range 761 764 ∷ range 764 767 ∷ range 767 769 ∷
    range 769 769 ∷ range 769 771 ∷ range 771 771 ∷ range 771 773 ∷ range 773 775 ∷ range 775 777 ∷ range 777 779 ∷ range 779 779 ∷ range 779 782 ∷ range 782 785 ∷ range 785 788 ∷ range 788 789 ∷
    range 789 789 ∷ range 789 791 ∷ range 791 791 ∷ range 791 792 ∷ range 792 792 ∷ range 792 794 ∷ range 794 794 ∷ range 794 796 ∷ range 796 796 ∷ range 796 798 ∷ range 798 801 ∷ range 801 804 ∷
    range 804 806 ∷ range 806 806 ∷ range 806 808 ∷ range 808 808 ∷ range 808 810 ∷ range 810 810 ∷ range 810 812 ∷ range 812 812 ∷ range 812 814 ∷ range 814 814 ∷ range 814 817 ∷ range 817 817 ∷
    range 817 819 ∷ range 819 819 ∷ range 819 821 ∷ range 821 821 ∷ range 821 823 ∷ range 823 823 ∷ range 823 824 ∷ range 824 824 ∷ range 824 825 ∷ range 825 825 ∷ range 825 826 ∷ range 826 828 ∷
    range 828 829 ∷ range 829 830 ∷ range 830 830 ∷ range 830 832 ∷ range 832 832 ∷ range 832 834 ∷ range 834 834 ∷ range 834 836 ∷ range 836 836 ∷ range 836 838 ∷ range 838 838 ∷ range 838 841 ∷
    range 841 843 ∷ range 843 843 ∷ range 843 845 ∷ range 845 845 ∷ range 845 846 ∷ range 846 846 ∷ range 846 847 ∷ range 847 848 ∷ range 848 848 ∷ range 848 850 ∷ range 850 850 ∷ range 850 852 ∷
    range 852 852 ∷ range 852 855 ∷ range 855 857 ∷ range 857 857 ∷ range 857 858 ∷ range 858 858 ∷ range 858 859 ∷ range 859 860 ∷ range 860 861 ∷ range 861 862 ∷ range 862 862 ∷ range 862 864 ∷
    range 864 865 ∷ range 865 865 ∷ range 865 867 ∷ range 867 870 ∷ range 870 871 ∷ range 871 871 ∷ range 871 873 ∷ range 873 873 ∷ range 873 875 ∷ range 875 875 ∷ range 875 877 ∷ range 877 877 ∷
    range 877 879 ∷ range 879 879 ∷ range 879 880 ∷ range 880 880 ∷ range 880 881 ∷ range 881 881 ∷ range 881 882 ∷ range 882 882 ∷ range 882 883 ∷ range 883 883 ∷ range 883 885 ∷ range 885 885 ∷
    range 885 887 ∷ range 887 887 ∷ range 887 889 ∷ range 889 889 ∷ range 889 891 ∷ range 891 891 ∷ range 891 893 ∷ range 893 893 ∷ range 893 894 ∷ range 894 895 ∷ range 895 895 ∷ range 895 897 ∷
    range 897 897 ∷ range 897 899 ∷ range 899 899 ∷ range 899 901 ∷ range 901 902 ∷ range 902 902 ∷ range 902 904 ∷ range 904 904 ∷ range 904 906 ∷ range 906 908 ∷ range 908 910 ∷ range 910 910 ∷
    range 910 912 ∷ range 912 913 ∷ range 913 914 ∷ range 914 914 ∷ range 914 915 ∷ range 915 915 ∷ range 915 917 ∷ range 917 917 ∷ range 917 918 ∷ range 918 918 ∷ range 918 920 ∷ range 920 921 ∷
    range 921 922 ∷ range 922 924 ∷ range 924 927 ∷ range 927 929 ∷ range 929 932 ∷ range 932 935 ∷ range 935 937 ∷ range 937 938 ∷ range 938 938 ∷ range 938 940 ∷ range 940 940 ∷ range 940 941 ∷
    range 941 941 ∷ range 941 943 ∷ range 943 943 ∷ range 943 945 ∷ range 945 947 ∷ range 947 948 ∷ range 948 948 ∷ range 948 950 ∷ range 950 953 ∷ range 953 953 ∷ range 953 954 ∷ range 954 954 ∷
    range 954 956 ∷ range 956 959 ∷ range 959 959 ∷ range 959 960 ∷ range 960 960 ∷ range 960 962 ∷ range 962 965 ∷ range 965 965 ∷ range 965 968 ∷ range 968 968 ∷ range 968 971 ∷ range 971 971 ∷
    range 971 974 ∷ range 974 974 ∷ range 974 977 ∷ range 977 977 ∷ range 977 980 ∷ range 980 980 ∷ range 980 983 ∷ range 983 983 ∷ range 983 985 ∷ range 985 985 ∷ range 985 987 ∷ range 987 987 ∷
    range 987 989 ∷ range 989 989 ∷ range 989 992 ∷ range 992 992 ∷ range 992 995 ∷ range 995 995 ∷ range 995 998 ∷ range 998 998 ∷ range 998 1001 ∷ range 1001 1001 ∷ range 1001 1004 ∷ range 1004 1004
    ∷ range 1004 1007 ∷ range 1007 1007 ∷ range 1007 1010 ∷ range 1010 1010 ∷ range 1010 1013 ∷ range 1013 1013 ∷ range 1013 1016 ∷ range 1016 1016 ∷ range 1016 1017 ∷ range 1017 1017 ∷ range 1017
    1018 ∷ range 1018 1018 ∷ range 1018 1020 ∷ range 1020 1020 ∷ range 1020 1022 ∷ range 1022 1022 ∷ range 1022 1024 ∷ range 1024 1024 ∷ range 1024 1027 ∷ range 1027 1028 ∷ range 1028 1029 ∷ range
    1029 1029 ∷ range 1029 1031 ∷ range 1031 1031 ∷ range 1031 1033 ∷ range 1033 1033 ∷ range 1033 1035 ∷ range 1035 1035 ∷ range 1035 1036 ∷ range 1036 1036 ∷ range 1036 1038 ∷ range 1038 1041 ∷
    range 1041 1041 ∷ range 1041 1044 ∷ range 1044 1044 ∷ range 1044 1047 ∷ range 1047 1047 ∷ range 1047 1049 ∷ range 1049 1049 ∷ range 1049 1052 ∷ range 1052 1052 ∷ range 1052 1055 ∷ range 1055 1055
    ∷ range 1055 1058 ∷ range 1058 1058 ∷ range 1058 1060 ∷ range 1060 1060 ∷ range 1060 1061 ∷ range 1061 1061 ∷ range 1061 1062 ∷ range 1062 1063 ∷ range 1063 1065 ∷ range 1065 1065 ∷ range 1065
    1067 ∷ range 1067 1067 ∷ range 1067 1070 ∷ range 1070 1071 ∷ range 1071 1071 ∷ range 1071 1074 ∷ range 1074 1075 ∷ range 1075 1075 ∷ range 1075 1077 ∷ range 1077 1077 ∷ range 1077 1079 ∷ range
    1079 1079 ∷ range 1079 1081 ∷ range 1081 1081 ∷ range 1081 1082 ∷ range 1082 1085 ∷ range 1085 1087 ∷ range 1087 1089 ∷ range 1089 1091 ∷ range 1091 1091 ∷ range 1091 1093 ∷ range 1093 1093 ∷
    range 1093 1094 ∷ range 1094 1097 ∷ range 1097 1099 ∷ range 1099 1101 ∷ range 1101 1103 ∷ range 1103 1103 ∷ range 1103 1105 ∷ range 1105 1105 ∷ range 1105 1106 ∷ range 1106 1106 ∷ range 1106 1108
    ∷ range 1108 1109 ∷ range 1109 1109 ∷ range 1109 1111 ∷ range 1111 1112 ∷ range 1112 1112 ∷ range 1112 1114 ∷ range 1114 1117 ∷ range 1117 1117 ∷ range 1117 1120 ∷ range 1120 1120 ∷ range 1120
    1123 ∷ range 1123 1123 ∷ range 1123 1126 ∷ range 1126 1126 ∷ range 1126 1129 ∷ range 1129 1129 ∷ range 1129 1132 ∷ range 1132 1132 ∷ range 1132 1134 ∷ range 1134 1134 ∷ range 1134 1136 ∷ range
    1136 1136 ∷ range 1136 1138 ∷ range 1138 1138 ∷ range 1138 1141 ∷ range 1141 1141 ∷ range 1141 1144 ∷ range 1144 1144 ∷ range 1144 1147 ∷ range 1147 1147 ∷ range 1147 1150 ∷ range 1150 1150 ∷
    range 1150 1153 ∷ range 1153 1153 ∷ range 1153 1156 ∷ range 1156 1156 ∷ range 1156 1158 ∷ range 1158 1160 ∷ range 1160 1160 ∷ range 1160 1162 ∷ range 1162 1164 ∷ range 1164 1164 ∷ range 1164 1166
    ∷ range 1166 1168 ∷ range 1168 1168 ∷ range 1168 1170 ∷ range 1170 1171 ∷ range 1171 1172 ∷ range 1172 1172 ∷ range 1172 1174 ∷ range 1174 1174 ∷ range 1174 1176 ∷ range 1176 1176 ∷ range 1176
    1178 ∷ range 1178 1180 ∷ range 1180 1180 ∷ range 1180 1182 ∷ range 1182 1182 ∷ range 1182 1184 ∷ range 1184 1186 ∷ range 1186 1186 ∷ range 1186 1188 ∷ range 1188 1188 ∷ range 1188 1189 ∷ range
    1189 1189 ∷ range 1189 1191 ∷ range 1191 1191 ∷ range 1191 1193 ∷ range 1193 1193 ∷ range 1193 1195 ∷ range 1195 1195 ∷ range 1195 1197 ∷ range 1197 1197 ∷ range 1197 1199 ∷ range 1199 1202 ∷
    range 1202 1205 ∷ range 1205 1207 ∷ range 1207 1210 ∷ range 1210 1212 ∷ range 1212 1212 ∷ range 1212 1214 ∷ range 1214 1214 ∷ range 1214 1216 ∷ range 1216 1221 ∷ []

unfoldable pub offsets : List ℕ
offsets =
    0 ∷ 3 ∷ 5 ∷ 7 ∷ 12 ∷ 13 ∷ 14 ∷ 15 ∷ 17 ∷ 20 ∷ 23 ∷ 26 ∷ 29 ∷ 32 ∷ 34 ∷ 39 ∷ 40 ∷ 41 ∷ 42 ∷ 45 ∷ 46 ∷ 47 ∷ 49 ∷ 50 ∷ 51 ∷ 52 ∷ 53 ∷ 54 ∷ 55 ∷ 57 ∷ 58 ∷ 59 ∷ 60 ∷ 62 ∷ 64 ∷ 65 ∷ 66 ∷ 67 ∷ 69 ∷ 70 ∷
    71 ∷ 72 ∷ 76 ∷ 77 ∷ 79 ∷ 80 ∷ 81 ∷ 82 ∷ 83 ∷ 84 ∷ 85 ∷ 86 ∷ 88 ∷ 90 ∷ 91 ∷ 92 ∷ 93 ∷ 94 ∷ 95 ∷ 96 ∷ 98 ∷ 99 ∷ 100 ∷ 101 ∷ 103 ∷ 105 ∷ 106 ∷ 107 ∷ 110 ∷ 113 ∷ 116 ∷ 119 ∷ 122 ∷ 125 ∷ 126 ∷ 127 ∷
    129 ∷ 130 ∷ 131 ∷ 134 ∷ 135 ∷ 136 ∷ 138 ∷ 139 ∷ 140 ∷ 141 ∷ 147 ∷ 148 ∷ 149 ∷ 151 ∷ 152 ∷ 153 ∷ 154 ∷ 155 ∷ 156 ∷ 159 ∷ 160 ∷ 162 ∷ 163 ∷ 165 ∷ 167 ∷ 168 ∷ 169 ∷ 174 ∷ 177 ∷ 179 ∷ 180 ∷ 181 ∷ 182
    ∷ 183 ∷ 184 ∷ 188 ∷ 189 ∷ 190 ∷ 192 ∷ 195 ∷ 197 ∷ 198 ∷ 199 ∷ 201 ∷ 202 ∷ 203 ∷ 204 ∷ 205 ∷ 206 ∷ 207 ∷ 208 ∷ 209 ∷ 210 ∷ 211 ∷ 212 ∷ 213 ∷ 214 ∷ 215 ∷ 216 ∷ 217 ∷ 218 ∷ 219 ∷ 220 ∷ 221 ∷ 222 ∷
    223 ∷ 225 ∷ 227 ∷ 229 ∷ 233 ∷ 237 ∷ 238 ∷ 239 ∷ 240 ∷ 242 ∷ 243 ∷ 244 ∷ 245 ∷ 246 ∷ 252 ∷ 258 ∷ 262 ∷ 263 ∷ 266 ∷ 267 ∷ 270 ∷ 271 ∷ 272 ∷ 274 ∷ 282 ∷ 283 ∷ 284 ∷ 285 ∷ 286 ∷ 287 ∷ 288 ∷ 289 ∷ 290
    ∷ 291 ∷ 292 ∷ 294 ∷ 295 ∷ 296 ∷ 297 ∷ 299 ∷ 301 ∷ 302 ∷ 304 ∷ 306 ∷ 307 ∷ 308 ∷ 309 ∷ 310 ∷ 311 ∷ 312 ∷ 313 ∷ 314 ∷ 315 ∷ 316 ∷ 317 ∷ 318 ∷ 319 ∷ 320 ∷ 321 ∷ 322 ∷ 323 ∷ 324 ∷ 325 ∷ 327 ∷ 329 ∷
    331 ∷ 332 ∷ 333 ∷ 334 ∷ 335 ∷ 336 ∷ 337 ∷ 338 ∷ 339 ∷ 342 ∷ 345 ∷ 348 ∷ 349 ∷ 350 ∷ 351 ∷ 352 ∷ 353 ∷ 354 ∷ 357 ∷ 359 ∷ 360 ∷ 362 ∷ 363 ∷ 364 ∷ 365 ∷ 374 ∷ 375 ∷ 376 ∷ 377 ∷ 378 ∷ 379 ∷ 380 ∷ 381
    ∷ 382 ∷ 383 ∷ 384 ∷ 385 ∷ 386 ∷ 387 ∷ 388 ∷ 390 ∷ 395 ∷ 396 ∷ 397 ∷ 398 ∷ 399 ∷ 400 ∷ 401 ∷ 403 ∷ 404 ∷ 406 ∷ 408 ∷ 410 ∷ 411 ∷ 414 ∷ 415 ∷ 416 ∷ 418 ∷ 420 ∷ 425 ∷ 426 ∷ 427 ∷ 428 ∷ 430 ∷ 432 ∷
    434 ∷ 436 ∷ 438 ∷ 440 ∷ 441 ∷ 443 ∷ 445 ∷ 447 ∷ 449 ∷ 451 ∷ 453 ∷ 455 ∷ 457 ∷ 459 ∷ 461 ∷ 463 ∷ 466 ∷ 468 ∷ 470 ∷ 472 ∷ 474 ∷ 476 ∷ 477 ∷ 479 ∷ 481 ∷ 483 ∷ 486 ∷ 488 ∷ 490 ∷ 491 ∷ 493 ∷ 495 ∷ 498
    ∷ 500 ∷ 503 ∷ 504 ∷ 505 ∷ 507 ∷ 509 ∷ 511 ∷ 513 ∷ 515 ∷ 517 ∷ 519 ∷ 521 ∷ 523 ∷ 525 ∷ 527 ∷ 529 ∷ 531 ∷ 533 ∷ 536 ∷ 538 ∷ 540 ∷ 543 ∷ 545 ∷ 547 ∷ 549 ∷ 551 ∷ 553 ∷ 555 ∷ 557 ∷ 559 ∷ 560 ∷ 562 ∷
    563 ∷ 564 ∷ 565 ∷ 568 ∷ 570 ∷ 572 ∷ 574 ∷ 576 ∷ 577 ∷ 578 ∷ 580 ∷ 581 ∷ 583 ∷ 585 ∷ 586 ∷ 588 ∷ 590 ∷ 591 ∷ 593 ∷ 595 ∷ 597 ∷ 599 ∷ 601 ∷ 603 ∷ 605 ∷ 607 ∷ 609 ∷ 611 ∷ 613 ∷ 615 ∷ 617 ∷ 619 ∷ 621
    ∷ 623 ∷ 625 ∷ 627 ∷ 629 ∷ 631 ∷ 633 ∷ 635 ∷ 637 ∷ 639 ∷ 641 ∷ 643 ∷ 645 ∷ 647 ∷ 649 ∷ 651 ∷ 652 ∷ 654 ∷ 656 ∷ 658 ∷ 660 ∷ 662 ∷ 664 ∷ 666 ∷ 668 ∷ 670 ∷ 671 ∷ 672 ∷ 674 ∷ 676 ∷ 677 ∷ 679 ∷ 680 ∷
    682 ∷ 684 ∷ 686 ∷ 688 ∷ 690 ∷ 691 ∷ 692 ∷ 694 ∷ 696 ∷ 698 ∷ 699 ∷ 700 ∷ 702 ∷ 704 ∷ 706 ∷ 707 ∷ 709 ∷ 710 ∷ 712 ∷ 713 ∷ 715 ∷ 717 ∷ 719 ∷ 721 ∷ 723 ∷ 725 ∷ 727 ∷ 729 ∷ 731 ∷ 733 ∷ 735 ∷ 737 ∷ 739
    ∷ 741 ∷ 743 ∷ 746 ∷ 749 ∷ 752 ∷ 754 ∷ 756 ∷ 758 ∷ 760 ∷ 761 ∷ 763 ∷ 765 ∷ 766 ∷ 768 ∷ 770 ∷ 772 ∷ 774 ∷ 776 ∷ 778 ∷ 780 ∷ 781 ∷ 782 ∷ 783 ∷ 784 ∷ 785 ∷ 787 ∷ 789 ∷ 790 ∷ 791 ∷ []
